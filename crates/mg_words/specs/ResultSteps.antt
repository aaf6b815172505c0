-- Sequencing of steps that may fail.
use Rattle.std.specs.Prelude.{Result, Ok, Err}

-- The second step, applied to the value of the first step, or the first step's error if it failed.
infixl 10 ◌>>=◌
abbrev pub ◌>>=◌ : {A B E : Type 0} → Result A E → (A → Result B E) → Result B E
(Ok x) >>= f = f x
(Err e) >>= f = Err e
