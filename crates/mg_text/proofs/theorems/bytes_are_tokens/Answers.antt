use Rattle.std.proofs.Common.{Some, None, [], ◌∷◌, ◌++◌, ◌∙◌}
use Rattle.mg_text.proofs.ScanLemmas.{Reaches-push}
use Rattle.mg_text.proofs.theorems.bytes_are_tokens.Goals as goal

pub loop-preserved : goal.loop-preserved
loop-preserved c =
    let gives = rw c.in-Some-Ok.field-0-is at c.in-Some-Ok.ensures.answer in
    let (ts, way) = c.loop.invariant.way in record {
      source = c.next.ensures.source ∙ c.loop.invariant.source;
      way = (ts ++ c.in-Some-Ok.field-0-0 ∷ [], Reaches-push _ _ _ _ _ way c.next.ensures.source gives);
    }

pub returns-in-Some-Err : goal.returns-in-Some-Err
returns-in-Some-Err c =
    let ends = rw c.in-Some-Err.field-0-is at c.in-Some-Err.ensures.answer in
    let (ts, way) = c.loop.invariant.way in record {
      tokens = (ts, Some c.in-Some-Err.field-0-0, record { last = c.loop.scanner; way = way; end = ends.0 });
    }

pub returns-in-None : goal.returns-in-None
returns-in-None c = let (ts, way) = c.loop.invariant.way in
    record { tokens = (ts, None, record { last = c.loop.scanner; way = way; end = c.in-None.ensures.answer.0 }) }
