use Rattle.std.proofs.Common.{◌≡◌, ◌≤◌, ◌==◌, ◌&&◌, not, filter, take}
use Rattle.arrayvec.specs.ArrayVec.{array_vec_len}
use Rattle.mg_engine.specs.Flow.{hears}
use Rattle.mg_engine.specs.Gateway.{Gateway}
use Rattle.mg_engine.specs.aids.Stands.{StandsFor}
use Rattle.mg_checkpoint.proofs.saving.muted_for.Given as goal

abbrev pub invariant-loop-talker : goal.invariant-loop-talker
invariant-loop-talker l = record {
  value : (w : Gateway) → StandsFor l.engine w → l.muted.items
      ≡ filter (λ n. not (n == l.listener.number) && not (hears w n l.listener.number)) (take l.talker-index l.members);
  few : array_vec_len l.muted ≤ l.talker-index;
}
