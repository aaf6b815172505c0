use Rattle.std.proofs.Common.{◌≡◌, ◌++◌, take}
use Rattle.std.specs.List.{flat_map}
use Rattle.mg_engine.specs.Gateway.{Gateway}
use Rattle.mg_engine.specs.aids.Stands.{StandsFor}
use Rattle.mg_checkpoint.specs.Said.{said_terminations}
use Rattle.mg_checkpoint.specs.aids.Text.{termination_lines}
use Rattle.mg_checkpoint.proofs.saving.put_terminations.Given as goal

abbrev pub invariant-loop-place : goal.invariant-loop-place
invariant-loop-place l = (w : Gateway) → StandsFor l.engine w
    → l.out.items ≡ l.initial.out.items ++ flat_map termination_lines (take l.place (said_terminations w))
