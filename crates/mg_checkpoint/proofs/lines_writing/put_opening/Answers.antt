use Rattle.std.proofs.lemmas.Result.{IfOk-equal}
use Rattle.mg_checkpoint.proofs.SavingLemmas.{five_parts}
use Rattle.mg_checkpoint.proofs.lines_writing.put_opening.Goals as goal

pub returns : goal.returns
returns c = record {
  value = IfOk-equal c.put_closing.result c.put_closing.new.out.items _ _ c.put_closing.ensures.value
      (five_parts _ _ _ _ _ _ _ _ _ _ c.in_ok-put_numbered.ensures.value c.in_ok-put_numbered-2.ensures.value
      c.in_ok-put.ensures.value c.in_ok-put_numbered-3.ensures.value);
}
