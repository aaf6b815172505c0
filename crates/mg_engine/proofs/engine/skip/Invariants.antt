use Rattle.mg_engine.proofs.Common.{◌≡◌, ◌-◌, ◌^◌, min, Gateway, StandsFor, after_ticks, concealed_in_ticks}
use Rattle.mg_engine.proofs.engine.skip.Given as goal

abbrev pub invariant-loop-done : goal.invariant-loop-done
invariant-loop-done l = record {
  after : (w : Gateway) → StandsFor l.fn.engine w → StandsFor l.engine (after_ticks l.done w);
  concealed : (w : Gateway) → StandsFor l.fn.engine w →
      l.concealed ≡ min (concealed_in_ticks l.done w) (2 ^ 64 - 1);
}
