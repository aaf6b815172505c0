use Rattle.std.specs.Prelude.{◌≤◌}
use Rattle.mg_sealing.specs.aids.Copying.{Copies}
use Rattle.mg_sealing.proofs.sealing.write_sealed.Given as goal

abbrev pub invariant-loop : goal.invariant-loop
invariant-loop g l =
    (l.ticks ≤ 3000)
    × Copies (g.R.Read.remaining l.initial.reader) (g.R.Read.remaining l.reader) (g.W.Write.contents l.initial.output)
    (g.W.Write.contents l.output) l.chain l.ticks l.is_due
