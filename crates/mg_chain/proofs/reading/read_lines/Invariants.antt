use Rattle.std.specs.Prelude.{◌<◌}
use Rattle.mg_chain.specs.aids.Reading.{Reads}
use Rattle.mg_chain.proofs.reading.read_lines.Given as goal

abbrev pub invariant-loop-number : goal.invariant-loop-number
invariant-loop-number g l =
    (l.check.seals.count < l.number)
    × Reads (g.R.Read.remaining l.initial.reader) (g.R.Read.remaining l.reader) l.check.chain l.check.seals l.number
