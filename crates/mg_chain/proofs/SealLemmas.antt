-- A seal is a comment.
use Rattle.std.proofs.Common.{◌≡◌, ◌≢◌, ℕ, zero, suc, ◌+◌, ◌/◌, ◌%◌, ◌≤◌, Bool, true, false, cond, eqb, List, [], ◌∷◌, ◌++◌, All, length, slice_index, refl, sym, ap, ◌∙◌, append_assoc, length-append, arith, codes}
use Rattle.std.proofs.lemmas.Bool.{eqb-true}
use Rattle.std.proofs.lemmas.List.Elements.{All-cons, All-nil, All-append}
use Rattle.hex.specs.Hex.{encode_lower, encode_with, lower_digits}
use Rattle.hex.proofs.HexLemmas.{length-encode_with}
use Rattle.sha2.specs.Sha256.{sha256}
use Rattle.sha2.proofs.Facts256.{length-sha256}
use Rattle.mg_chain.specs.Seals.{seal_of}

-- Whether the text has a line feed.
abbrev pub has_feed : List ℕ → Bool
has_feed [] = false
has_feed (b ∷ bs) = cond (eqb b 10) true (has_feed bs)

other : (b : ℕ) → eqb b 10 ≡ false → b ≢ 10
other b is_other same = absurd (cc (is_other, same))

plain_cons : (b : ℕ) (bs : List ℕ) (is : Bool) → eqb b 10 ≡ is → cond is true (has_feed bs) ≡ false
    → (has_feed bs ≡ false → All (λ b. b ≢ 10) bs) → All (λ b. b ≢ 10) (b ∷ bs)
plain_cons b bs true e none rest = absurd cc
plain_cons b bs false e none rest = All-cons (λ b. b ≢ 10) b bs (other b e) (rest none)

pub plain : (text : List ℕ) → has_feed text ≡ false → All (λ b. b ≢ 10) text
plain [] none = All-nil (λ b. b ≢ 10)
plain (b ∷ bs) none = plain_cons b bs (eqb b 10) refl none (plain bs)

plain_either : (b : ℕ) (bs : List ℕ) (i : ℕ) (is : Bool) → eqb b 10 ≡ is → cond is true (has_feed bs) ≡ false
    → ((k : ℕ) → has_feed bs ≡ false → slice_index bs k ≢ 10) → slice_index (b ∷ bs) i ≢ 10
plain_either b bs i true e none rest = absurd cc
plain_either b bs zero false e none rest = other b e
plain_either b bs (suc i) false e none rest = rest i none

plain_at : (text : List ℕ) (i : ℕ) → has_feed text ≡ false → slice_index text i ≢ 10
plain_at [] i none = λ e. absurd cc
plain_at (b ∷ bs) i none = plain_either b bs i (eqb b 10) refl none (plain_at bs)

plain_digits : (digits bytes : List ℕ) → has_feed digits ≡ false → All (λ b. b ≢ 10) (encode_with digits bytes)
unfolding encode_with
plain_digits digits [] none = All-nil (λ b. b ≢ 10)
plain_digits digits (b ∷ rest) none =
    All-cons (λ b. b ≢ 10) (slice_index digits (b / 16)) (slice_index digits (b % 16) ∷ encode_with digits rest)
    (plain_at digits (b / 16) none)
    (All-cons (λ b. b ≢ 10) (slice_index digits (b % 16)) (encode_with digits rest) (plain_at digits (b % 16) none)
    (plain_digits digits rest none))

-- The text of a seal, without the comment sign at its start and the line feed at its end.
abbrev pub seal_text : List ℕ → List ℕ
seal_text text = codes "sha256 " ++ encode_lower (sha256 text)

pub seal_line : (text : List ℕ)
    → (seal_of text ≡ codes "# " ++ (seal_text text ++ codes "\n")) × (length (seal_text text) ≤ 1000)
    × All (λ b. b ≢ 10) (seal_text text)
seal_line text = (
  ap (λ (l : List ℕ). codes "# " ++ l) (sym (append_assoc (codes "sha256 ") (encode_lower (sha256 text)) (codes "\n"))),
  omega (
    arith,
    length-append (codes "sha256 ") (encode_lower (sha256 text)),
    length-encode_with lower_digits (sha256 text),
    length-sha256 text,
  ),
  All-append (λ b. b ≢ 10) (codes "sha256 ") (encode_lower (sha256 text)) (plain (codes "sha256 ") refl)
      (plain_digits lower_digits (sha256 text) refl),
)
