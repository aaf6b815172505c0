use Rattle.std.proofs.Common.{◌≡◌, ◌++◌, take}
use Rattle.std.specs.List.{flat_map}
use Rattle.mg_engine.specs.Gateway.{Gateway}
use Rattle.mg_engine.specs.aids.Stands.{StandsFor}
use Rattle.mg_checkpoint.specs.aids.Text.{context_line}
use Rattle.mg_checkpoint.proofs.saving.put_contexts.Given as goal

abbrev pub invariant-loop-number : goal.invariant-loop-number
invariant-loop-number l = (w : Gateway) → StandsFor l.engine w
    → l.out.items ≡ l.initial.out.items ++ flat_map context_line (take l.number-index w.rooms.contexts)
