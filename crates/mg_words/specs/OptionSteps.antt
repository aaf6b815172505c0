-- Sequencing of steps that return an optional value.
use Rattle.std.specs.Prelude.{Option, Some, None}

-- The second step, applied to the value of the first step, or `None` if the first step has no value.
infixl 10 ◌>>=◌
abbrev pub ◌>>=◌ : {A B : Type 0} → Option A → (A → Option B) → Option B
None >>= f = None
(Some x) >>= f = f x
