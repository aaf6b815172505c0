-- The search for the brace that closes a session description, from one brace to the next.
use Rattle.std.proofs.Common.{◌≡◌, ℕ, zero, suc, ◌+◌, ◌-◌, ◌<◌, ◌≢◌, ◌⊎◌, inl, inr, Bool, true, false, ◌==◌, List, [], ◌∷◌, length, get_or, drop, Option, Some, None, refl, sym, ap, ◌∙◌, arith}
use Rattle.std.proofs.lemmas.List.{drop-drop}
use Rattle.std.proofs.lemmas.Bool.{eqb-true, eq-eqb, ne_eqb, false_from_ne_true}
use Rattle.memchr.specs.Find.{IsFirstByte, is_byte}
use Rattle.std.specs.Option.{option_map}
use Rattle.mg_scan.specs.Tokens.{content_len}

-- Converts a position in the rest of a source to a position in the whole source, by adding `i`.
abbrev pub moved : ℕ → Option ℕ → Option ℕ
moved i o = option_map (λ n. i + n) o

moved-suc : (i j : ℕ) (o : Option ℕ) → j ≡ 1 + i → option_map (λ n. 1 + n) (moved i o) ≡ moved j o
moved-suc i j None e = refl
moved-suc i j (Some n) e = let s : 1 + (i + n) ≡ j + n = omega arith in ap (λ (k : ℕ). Some k) s

-- Whether the byte before position n is a backslash. For position 0, the flag says whether the byte before the list is
-- a backslash.
abbrev pub escaped_at : Bool → List ℕ → ℕ → Bool
escaped_at escaped bs zero = escaped
escaped_at escaped bs (suc n) = get_or bs n 0 == 92

-- The length of content whose first closing brace is at position n. The content ends there, or continues if the brace
-- is escaped (the flag).
abbrev pub at_brace : Bool → List ℕ → ℕ → Option ℕ
at_brace false bs n = Some n
at_brace true bs n = moved (n + 1) (content_len false (drop (n + 1) bs))

same_byte : (b : ℕ) (bs : List ℕ) (k : ℕ) → escaped_at (b == 92) bs k ≡ (get_or (b ∷ bs) k 0 == 92)
same_byte b bs zero = refl
same_byte b bs (suc k) = refl

one_more : (t : Bool) (b : ℕ) (bs : List ℕ) (k : ℕ) →
    option_map (λ n. 1 + n) (at_brace t bs k) ≡ at_brace t (b ∷ bs) (suc k)
one_more false b bs k = let e : 1 + k ≡ suc k = omega arith in ap (λ (n : ℕ). Some n) e
one_more true b bs k =
    let e : suc k + 1 ≡ suc (k + 1) = omega arith in
    rw e (moved-suc (k + 1) (suc (k + 1)) (content_len false (drop (k + 1) bs)) (omega arith))

here : (escaped : Bool) (b : ℕ) (bs : List ℕ) → (b == 125) ≡ true → (b == 92) ≡ false →
    content_len escaped (b ∷ bs) ≡ at_brace escaped (b ∷ bs) 0
unfolding content_len
here false b bs e ne = rw e refl
here true b bs e ne = rw (e, ne) refl

no_backslash : (b : ℕ) → (b == 125) ≡ true → (b == 92) ≡ false
no_backslash b e = rw (eqb-true b 125 e) refl

-- If the first closing brace in the bytes is at position n, the length of the content is `at_brace` of n.
pub first_brace : (escaped : Bool) (bs : List ℕ) (n : ℕ) → n < length bs →
    ((k : ℕ) → k < n → (get_or bs k 0 == 125) ≡ false) → (get_or bs n 0 == 125) ≡ true →
    content_len escaped bs ≡ at_brace (escaped_at escaped bs n) bs n
unfolding content_len
first_brace escaped [] n lt before is = absurd (omega arith)
first_brace escaped (b ∷ bs) zero lt before is = here escaped b bs is (no_backslash b is)
first_brace escaped (b ∷ bs) (suc n) lt before is =
    let first : (b == 125) ≡ false = before 0 (omega arith) in
    let later = first_brace (b == 92) bs n (omega arith) (λ k lt. before (suc k) (omega arith)) is in
    rw first (ap (option_map (λ n. 1 + n)) (later ∙ ap (λ (t : Bool). at_brace t bs n) (same_byte b bs n)) ∙
    one_more (get_or (b ∷ bs) n 0 == 92) b bs n)

pub no_brace : (escaped : Bool) (bs : List ℕ) → ((k : ℕ) → k < length bs → (get_or bs k 0 == 125) ≡ false) →
    content_len escaped bs ≡ None
unfolding content_len
no_brace escaped [] h = refl
no_brace escaped (b ∷ bs) h =
    let first : (b == 125) ≡ false = h 0 (omega arith) in
    rw (first, no_brace (b == 92) bs (λ k lt. h (suc k) (omega arith))) refl

-- One step of the search, in the bytes from position `from` on.
module _ (bytes : List ℕ) (from : ℕ) (rest : List ℕ) (is_rest : rest ≡ drop from bytes) where
  found-cases : (t : Bool) (n : ℕ) → IsFirstByte (is_byte 125) rest (Some n) → escaped_at false rest n ≡ t →
      content_len false (drop from bytes) ≡ at_brace t rest n
  found-cases t n first is =
      ap (content_len false) (sym is_rest) ∙ first_brace false rest n first.0.high
      (λ k lt. false_from_ne_true _ (first.0.before k (omega arith) lt)) first.1 ∙
      ap (λ (t : Bool). at_brace t rest n) is

  pub closes : (n : ℕ) → IsFirstByte (is_byte 125) rest (Some n) → escaped_at false rest n ≡ false →
      moved from (content_len false (drop from bytes)) ≡ Some (from + n)
  closes n first is = ap (moved from) (found-cases false n first is)

  pub passes : (n next : ℕ) → IsFirstByte (is_byte 125) rest (Some n) → escaped_at false rest n ≡ true →
      next ≡ from + (n + 1) → moved from (content_len false (drop from bytes)) ≡
      moved next (content_len false (drop next bytes))
  passes n next first is e =
      let after : drop (n + 1) rest ≡ drop next bytes = ap (drop (n + 1)) is_rest ∙ drop-drop (n + 1) from bytes ∙
      ap (λ (i : ℕ). drop i bytes) (sym e) in
      ap (moved from) (found-cases true n first is ∙ ap (λ (l : List ℕ). moved (n + 1) (content_len false l)) after) ∙
      twice from (n + 1) next (content_len false (drop next bytes)) e
    where
      twice : (i j k : ℕ) (o : Option ℕ) → k ≡ i + j → moved i (moved j o) ≡ moved k o
      twice i j k None e = refl
      twice i j k (Some n) e = let s : i + (j + n) ≡ k + n = omega arith in ap (λ (k : ℕ). Some k) s

  pub runs_out : IsFirstByte (is_byte 125) rest None → moved from (content_len false (drop from bytes)) ≡ None
  runs_out none = ap (moved from) (ap (content_len false) (sym is_rest) ∙
      no_brace false rest (λ k lt. false_from_ne_true _ (none k (omega arith) lt)))

-- A brace is not escaped if it is the first byte or if the byte before it is not a backslash.
pub not_escaped : (rest : List ℕ) (n : ℕ) → (n ≡ 0) ⊎ (get_or rest (n - 1) 0 ≢ 92) → escaped_at false rest n ≡ false
not_escaped rest zero h = refl
not_escaped rest (suc n) (inl e) = absurd (omega arith)
not_escaped rest (suc n) (inr ne) = let e : suc n - 1 ≡ n = omega arith in ne_eqb _ 92 (rw e at ne)

pub is_escaped : (rest : List ℕ) (n : ℕ) → n ≢ 0 → get_or rest (n - 1) 0 ≡ 92 → escaped_at false rest n ≡ true
is_escaped rest zero ne e = absurd (ne refl)
is_escaped rest (suc n) ne e = let one : suc n - 1 ≡ n = omega arith in eq-eqb _ 92 (rw one at e)
