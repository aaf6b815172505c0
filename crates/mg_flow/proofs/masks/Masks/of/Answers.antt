use Rattle.std.proofs.Common.{◌<◌, length, length-set, ◌∙◌, arith}
use Rattle.mg_flow.proofs.MasksLemmas.{written}
use Rattle.mg_flow.proofs.masks.Masks.of.Goals as goal

pub loop-listener-preserved : goal.loop-listener-preserved
loop-listener-preserved c =
    let within : c.loop-listener.listener < length c.loop-listener.open = omega arith in
    let inside : c.loop-listener.listener < length c.loop-listener.silenced = omega arith in
    record {
      open_length = length-set _ _ _ ∙ c.loop-listener.invariant.open_length;
      silenced_length = length-set _ _ _ ∙ c.loop-listener.invariant.silenced_length;
      flows = written _ _ _ _ within c.loop-listener.invariant.flows c.open_row.ensures;
      kept = written _ _ _ _ inside c.loop-listener.invariant.kept c.silenced_row.ensures;
    }
