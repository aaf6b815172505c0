-- The progress of copying a recording.
use Rattle.std.specs.Prelude.{◌≡◌, ℕ, ◌<◌, ◌≤◌, Bool, true, List, length, Option, Some, IfSome}
use Rattle.std.specs.Io.KnownBytes.{Appends}
use Rattle.sha2.specs.declared.Sha256.{Sha256}
use Rattle.sha2.specs.Hashers.{Holds256}
use Rattle.mg_chain.specs.Seals.{is_whole, last_part}
use Rattle.mg_sealing.specs.Sealed.{last_line, needs_seal, sealed, sealed_with}

-- Part of a recording has been copied: `printed` is the output so far, and `left` is the rest of the recording.
pub record Copying (text : List ℕ) (rest start contents : Option (List ℕ)) (hasher : Sha256) (ticks : ℕ) (due : Bool)
    : Type 0 where
  pub printed : List ℕ
  pub left : List ℕ
  pub most : ℕ
  pub remaining : rest ≡ Some left
  pub whole : 0 < length left → is_whole printed ≡ true
  pub holds : Holds256 hasher (last_part printed)
  pub prints : Appends start contents printed
  pub last : due ≡ needs_seal (last_line printed)
  pub enough : length left ≤ most
  pub is : sealed_with most ticks printed left ≡ sealed text

-- The state of copying, if the text is known.
abbrev pub Copies : (text rest start contents : Option (List ℕ)) → Sha256 → ℕ → (due : Bool) → Type 0
Copies text rest start contents hasher ticks due =
    IfSome text (λ all. Copying all rest start contents hasher ticks due)
