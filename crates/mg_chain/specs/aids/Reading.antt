-- The state of reading a text line by line.
use Rattle.std.specs.Prelude.{◌≡◌, ℕ, ◌<◌, ◌≤◌, ◌++◌, true, List, length, Option, Some, IfSome}
use Rattle.sha2.specs.declared.Sha256.{Sha256}
use Rattle.sha2.specs.Hashers.{Holds256}
use Rattle.mg_chain.specs.declared.seals.Seals.{Seals}
use Rattle.mg_chain.specs.Seals.{after_lines, is_whole, last_part, seals_of}

-- The text before and after the next line, the number of that line, and the counts before it.
pub record Reading (text : List ℕ) (rest : Option (List ℕ)) (hasher : Sha256) (seals : Seals)
    (number : ℕ) : Type 0 where
  pub before : List ℕ
  pub left : List ℕ
  pub most : ℕ
  pub remaining : rest ≡ Some left
  pub parts : before ++ left ≡ text
  pub whole : 0 < length left → is_whole before ≡ true
  pub holds : Holds256 hasher (last_part before)
  pub enough : length left ≤ most
  pub is : after_lines most seals number before left ≡ seals_of text

-- If the text is known, `Reading` holds for it.
abbrev pub Reads : (text rest : Option (List ℕ)) → Sha256 → Seals → ℕ → Type 0
Reads text rest hasher seals number = IfSome text (λ all. Reading all rest hasher seals number)
