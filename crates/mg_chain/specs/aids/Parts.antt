-- The start of the last part of a text.
use Rattle.std.specs.Prelude.{◌≡◌, ℕ, ◌-◌, ◌≤◌, true, false, List, ◌++◌, length, drop, Option, Some, None}
use Rattle.mg_chain.specs.Seals.{has_mark}

-- The last line that begins like a seal, other than the first line, begins at `start`.
pub record IsStart (text : List ℕ) (start : ℕ) : Type 0 where
  pub within : start ≤ length text
  pub before : has_mark (drop (start - 1) text) ≡ true
  pub last : has_mark (drop start text) ≡ false

-- The last part after more lines. If a line among them begins like a seal, `start` is the start of the last such line;
-- otherwise the lines extend the part.
abbrev pub part_after : (start : Option ℕ) → (part lines : List ℕ) → List ℕ
part_after None part lines = part ++ lines
part_after (Some start) part lines = drop start lines
