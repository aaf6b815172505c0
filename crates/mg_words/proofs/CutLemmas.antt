-- Lemmas about splitting text at a byte, and about prefixes whose case is ignored.
use Rattle.std.proofs.Common.{◌≡◌, ◌≢◌, ℕ, ◌+◌, ◌<◌, ◌&&◌, ◌==◌, Bool, true, false, List, [], ◌∷◌, length, take, drop, Some, None, refl, arith, ◌∙◌, ap}
use Rattle.std.proofs.lemmas.List.{drop-drop, length-take}
use Rattle.std.specs.Char.{to_ascii_lowercase}
use Rattle.std.specs.Str.{str_eq_ignore_ascii_case, str_to_ascii_lowercase}
use Rattle.std.proofs.lemmas.Slice.Eq.{bytes_eq-Decides}
use Rattle.std.proofs.lemmas.List.Sums.{position_or_len_is}
use Rattle.std.proofs.lemmas.Bool.{false_from_ne_true, lt-ltb, le-ltb}
use Rattle.memchr.specs.Find.{IsFirstByte, is_byte}
use Rattle.mg_words.specs.Cut.{cut}

pub none_cut : (byte : ℕ) (text : List ℕ) → IsFirstByte (is_byte byte) text None → cut byte text ≡ None
none_cut byte text h =
    let all = position_or_len_is (is_byte byte) text (length text) 0 (omega arith)
    (λ k lt. false_from_ne_true _ (h k (omega arith) lt)) (λ lt. absurd (omega arith)) in
    rw (all, le-ltb (length text) (length text) (omega arith)) refl

pub first_cut : (byte : ℕ) (text before tail after : List ℕ) (n : ℕ) → IsFirstByte (is_byte byte) text (Some n) →
    before ≡ take n text → tail ≡ drop n text → after ≡ drop 1 tail → cut byte text ≡ Some (before, after)
first_cut byte text before tail after n h b t r =
    let place = position_or_len_is (is_byte byte) text n 0 (omega arith)
    (λ k lt. false_from_ne_true _ (h.0.before k (omega arith) lt)) (λ _. h.1) in
    let high = h.0.high in
    let rest : after ≡ drop (n + 1) text = r ∙ ap (drop 1) t ∙ drop-drop 1 n text in
    rw (place, lt-ltb n (length text) high, ← b, ← rest) refl

and_false : (p : Bool) → (p && false) ≡ false
and_false true = refl
and_false false = refl

-- These lemmas show that two strings are equal ignoring case if and only if they are equal in lower case.
pub same_letters : (a b : List ℕ) → str_eq_ignore_ascii_case a b ≡ true →
    str_to_ascii_lowercase a ≡ str_to_ascii_lowercase b
same_letters a b h = (bytes_eq-Decides (str_to_ascii_lowercase a) (str_to_ascii_lowercase b)).0 h

pub letters_same : (a b : List ℕ) → str_to_ascii_lowercase a ≡ str_to_ascii_lowercase b →
    str_eq_ignore_ascii_case a b ≡ true
letters_same a b h = (bytes_eq-Decides (str_to_ascii_lowercase a) (str_to_ascii_lowercase b)).1 h

-- Strings of different lengths are not equal, even ignoring case.
pub same_len : (a b : List ℕ) → length a ≢ length b → str_eq_ignore_ascii_case a b ≡ false
same_len [] [] ne = absurd (ne refl)
same_len [] (y ∷ b) ne = refl
same_len (x ∷ a) [] ne = refl
same_len (x ∷ a) (y ∷ b) ne =
    let rest : str_eq_ignore_ascii_case a b ≡ false = same_len a b (omega arith) in
    rw rest (and_false (to_ascii_lowercase x == to_ascii_lowercase y))

-- A string that is shorter than a prefix does not start with the prefix.
pub too_short : (prefix text : List ℕ) → length text < length prefix →
    str_eq_ignore_ascii_case (take (length prefix) text) prefix ≡ false
too_short prefix text lt = same_len (take (length prefix) text) prefix
    (λ e. omega (arith, lt, e, length-take (length prefix) text))
