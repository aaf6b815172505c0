-- Skipping white space, one blank or comment at a time.
use Rattle.std.proofs.Common.{◌≡◌, ℕ, ◌+◌, ◌<◌, ◌≤◌, Bool, true, false, cond, List, [], ◌∷◌, length, get_or, drop, refl, sym, ap, ◌∙◌, one-add, ◌≢◌, ◌==◌, not}
use Rattle.std.proofs.lemmas.List.{drop-drop, drop_more, drop_all}
use Rattle.std.proofs.lemmas.Bool.{or_parts, ne_eqb}
use Rattle.std.specs.List.{position_or_len}
use Rattle.mg_words.specs.LineEnd.{is_line_end}
use Rattle.mg_scan.specs.Tokens.{is_blank, after_white}

-- Inside a comment, everything up to the end of the line is skipped, and the white space from there on.
after_comment-cases : (t : Bool) (n : ℕ) (b : ℕ) (bs : List ℕ) → is_line_end b ≡ t →
    after_white true bs ≡ after_white false (drop n bs) →
    after_white true (b ∷ bs) ≡ after_white false (drop (cond (not t) (1 + n) 0) (b ∷ bs))
unfolding after_white
after_comment-cases true n b bs e h = rw e refl
after_comment-cases false n b bs e h = rw (e, one-add) h

pub after_comment : (bs : List ℕ) → after_white true bs ≡ after_white false (drop (position_or_len is_line_end bs) bs)
unfolding after_white
after_comment [] = refl
after_comment (b ∷ bs) = after_comment-cases (is_line_end b) (position_or_len is_line_end bs) b bs refl
    (after_comment bs)

blank-cases : {X : Type 0} (x y z : Bool) (a b c : X) → y ≡ true → cond x a (cond y a (cond z b c)) ≡ a
blank-cases true y z a b c e = refl
blank-cases false y z a b c e = rw e refl

solid-cases : {X : Type 0} (x y z : Bool) (a b c : X) → x ≡ false → y ≡ false → z ≡ false →
    cond x a (cond y a (cond z b c)) ≡ c
solid-cases x y z a b c e f g = rw (e, f, g) refl

blank-cons : (b : ℕ) (bs : List ℕ) → is_blank b ≡ true → after_white false (b ∷ bs) ≡ after_white false bs
unfolding after_white
blank-cons b bs e = blank-cases (is_line_end b) (is_blank b) (b == 59) _ _ _ e

comment-cons : (b : ℕ) (bs : List ℕ) → b ≡ 59 → after_white false (b ∷ bs) ≡ after_white true bs
unfolding after_white
comment-cons b bs e = rw e refl

solid-cons : (b : ℕ) (bs : List ℕ) → is_blank b ≡ false → b ≢ 59 → after_white false (b ∷ bs) ≡ b ∷ bs
unfolding after_white
solid-cons b bs e ne = solid-cases (is_line_end b) (is_blank b) (b == 59) _ _ _ (or_parts _ _ e).1 e (ne_eqb b 59 ne)

pub blank_step : (bytes : List ℕ) (n : ℕ) → n < length bytes → is_blank (get_or bytes n 0) ≡ true →
    after_white false (drop (n + 1) bytes) ≡ after_white false (drop n bytes)
blank_step bytes n lt e = rw (drop_more bytes n 0 lt) (sym (blank-cons (get_or bytes n 0) (drop (n + 1) bytes) e))

pub comment_step : (bytes : List ℕ) (n k : ℕ) → n < length bytes → get_or bytes n 0 ≡ 59 →
    k ≡ position_or_len is_line_end (drop (n + 1) bytes) →
    after_white false (drop (n + 1 + k) bytes) ≡ after_white false (drop n bytes)
comment_step bytes n k lt e is =
    ap (after_white false) (sym (drop-drop k (n + 1) bytes)) ∙
    ap (λ (i : ℕ). after_white false (drop i (drop (n + 1) bytes))) is ∙ sym (after_comment (drop (n + 1) bytes))
    ∙ sym (comment-cons (get_or bytes n 0) (drop (n + 1) bytes) e) ∙
    ap (after_white false) (sym (drop_more bytes n 0 lt))

pub solid_stop : (bytes : List ℕ) (n : ℕ) → n < length bytes → is_blank (get_or bytes n 0) ≡ false →
    get_or bytes n 0 ≢ 59 → after_white false (drop n bytes) ≡ drop n bytes
solid_stop bytes n lt e ne = rw (drop_more bytes n 0 lt) (solid-cons (get_or bytes n 0) (drop (n + 1) bytes) e ne)

pub white_end : (bytes : List ℕ) (n : ℕ) → length bytes ≤ n → after_white false (drop n bytes) ≡ drop n bytes
unfolding after_white
white_end bytes n le = rw (drop_all n bytes le) refl

pub ruleset steps = (blank_step, comment_step, solid_stop, white_end)
