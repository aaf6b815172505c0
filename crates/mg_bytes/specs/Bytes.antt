-- A text buffer of fixed capacity.
use Rattle.std.specs.Prelude.{ℕ, ◌-◌, List, ◌++◌, length}

-- The text, and the room that remains after the text.
pub record Written : Type 0 where
  pub text : List ℕ
  pub room : ℕ

-- The text with another part appended.
abbrev pub appended : Written → List ℕ → Written
appended old part = record { text = old.text ++ part; room = old.room - length part }
