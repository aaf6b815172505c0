-- Appends that are tried in time, if there is a journal.
use Rattle.std.specs.Prelude.{◌≡◌, ℕ, List, Option, None, Some}
use Rattle.mg_journal.specs.declared.durability.Durability.{Durability}
use Rattle.mg_serve.specs.Journaled.{Tries}
use Rattle.mg_serve.specs.Trace.{TraceEntry}

-- If there is a journal, appends are tried in time.
abbrev pub IsTried : Option Durability → ℕ → List TraceEntry → ℕ → Type 0
IsTried None untried trace left = left ≡ untried
IsTried (Some durable) untried trace left = Tries untried trace left
