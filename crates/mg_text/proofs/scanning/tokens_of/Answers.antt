use Rattle.std.proofs.Common.{◌∙◌}
use Rattle.mg_text.proofs.ScanLemmas.{Reaches-push}
use Rattle.mg_text.proofs.scanning.tokens_of.Goals as goal

pub loop-token-preserved : goal.loop-token-preserved
loop-token-preserved c =
    let gives = rw c.in-Some-Ok.field-0-is at c.in-Some-Ok.ensures.answer in
    record {
      source = c.next.ensures.source ∙ c.loop-token.invariant.source;
      way = rw c.in_ok-put-in-Some-Ok.ensures.items
          (Reaches-push _ _ _ _ _ c.loop-token.invariant.way c.next.ensures.source gives);
    }
