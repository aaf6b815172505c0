use Rattle.std.specs.Prelude.{◌≡◌, ◌∷◌, drop}
use Rattle.mg_program.specs.aids.Verifying.{AreVerifiedSoFar, answer_if}
use Rattle.mg_program.proofs.verify.verify_files.Given as goal

-- The files so far were verified.
abbrev pub invariant-loop-next : goal.invariant-loop-next
invariant-loop-next g l = (l.outside.input ≡ l.fn.outside.input) × (l.outside.errors ≡ l.fn.outside.errors)
    × AreVerifiedSoFar (l.path ∷ l.later) (drop l.next-index l.later) l.series.before (g.E.Host.Tells.calls l.fn.outside.host)
    (g.E.Host.Tells.calls l.outside.host) (g.E.Output.Write.contents l.fn.outside.output)
    (g.E.Output.Write.contents l.outside.output) (answer_if l.are_valid)
