-- The guarantees of valid seals, and the effect of sealing a recording twice.
use Rattle.std.specs.Prelude.{◌≡◌, ◌≢◌, ◌⊎◌, true, ℕ, List, ◌++◌, None}
use Rattle.sha2.specs.Sha256.{sha256}
use Rattle.mg_chain.specs.Seals.{is_whole, last_part, seal_of, seals_of}
use Rattle.mg_sealing.specs.Sealed.{sealed}

-- No seal of the text is invalid.
abbrev pub HasNoWrong : List ℕ → Type 0
HasNoWrong text = (seals_of text).wrong ≡ None

-- Somewhere in the text, this part is followed by its seal.
abbrev pub HasSealed : (text part : List ℕ) → Type 0
HasSealed text part =
    (front rest : List ℕ) × (text ≡ front ++ (seal_of part ++ rest)) × (last_part front ≡ part)

-- Each text has a sealed part, and the two parts differ but have the same SHA-256.
pub record HaveCollision (one two : List ℕ) : Type 0 where
  pub first : List ℕ
  pub second : List ℕ
  pub sealed : HasSealed one first × HasSealed two second
  pub differ : first ≢ second
  pub same : sha256 first ≡ sha256 second

-- Let two texts have no invalid seal, and contain the same seal. Then the text before that seal is the same in both, or
-- there is a collision of SHA-256.
abbrev pub ChangesShow : Type 0
ChangesShow = (part one two rest more : List ℕ) → is_whole one ≡ true → is_whole two ≡ true
    → HasNoWrong (one ++ (seal_of part ++ rest)) → HasNoWrong (two ++ (seal_of part ++ more))
    → (one ≡ two) ⊎ HaveCollision (one ++ (seal_of part ++ rest)) (two ++ (seal_of part ++ more))

-- A sealed recording stays unchanged if it is sealed again.
abbrev pub SealedStays : Type 0
SealedStays = (text : List ℕ) → sealed (sealed text) ≡ sealed text
