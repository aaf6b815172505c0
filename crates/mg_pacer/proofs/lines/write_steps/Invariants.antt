use Rattle.std.proofs.Common.{◌≡◌, ℕ, List, ◌++◌}
use Rattle.std.specs.Io.KnownBytes.{Appends}
use Rattle.mg_clock.specs.Text.{text}
use Rattle.mg_pacer.proofs.lines.write_steps.Given as goal

abbrev pub invariant-loop-step : goal.invariant-loop-step
invariant-loop-step g l = (lines : List ℕ) × (text l.polls l.step ≡ text l.polls l.from ++ lines) ×
    Appends (g.W.Write.contents l.initial.output) (g.W.Write.contents l.output) lines
