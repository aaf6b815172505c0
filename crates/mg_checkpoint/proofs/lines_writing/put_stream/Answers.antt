use Rattle.std.proofs.Common.{◌++◌, codes, ap, ◌∙◌}
use Rattle.std.proofs.lemmas.Result.{IfOk-equal}
use Rattle.mg_checkpoint.specs.aids.Forms.{numbered}
use Rattle.mg_checkpoint.proofs.WritingLemmas.{four_parts}
use Rattle.mg_checkpoint.proofs.lines_writing.put_stream.Goals as goal

pub returns : goal.returns
returns c = record {
  value = IfOk-equal c.put_numbered.result c.put_numbered.new.out.items _ _ c.put_numbered.ensures.value
      (ap (λ n. c.put-2.new.out.items ++ numbered (codes "depth ") n) c.from.ensures ∙ four_parts _ _ _ _ _ _ _ _
      c.in_ok-put.ensures.value
      c.in_ok-put_mode.ensures.value
      c.in_ok-put-2.ensures.value);
}
