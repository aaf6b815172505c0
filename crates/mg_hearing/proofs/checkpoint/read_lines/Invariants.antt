use Rattle.std.specs.Prelude.{◌≡◌, ◌++◌, List, ℕ}
use Rattle.std.specs.Io.KnownBytes.{Consumes}
use Rattle.mg_hearing.proofs.checkpoint.read_lines.Given as goal

abbrev pub invariant-loop : goal.invariant-loop
invariant-loop g l = (more : List ℕ) × (l.text.items ≡ l.first ++ more)
    × Consumes (g.R.Read.remaining l.initial.reader) (g.R.Read.remaining l.reader) more
