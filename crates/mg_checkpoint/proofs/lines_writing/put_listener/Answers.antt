use Rattle.std.proofs.Common.{◌++◌, codes, ap, ◌∙◌}
use Rattle.std.proofs.lemmas.Result.{IfOk-equal}
use Rattle.mg_checkpoint.specs.aids.Forms.{numbered}
use Rattle.mg_checkpoint.proofs.WritingLemmas.{four_parts}
use Rattle.mg_checkpoint.proofs.lines_writing.put_listener.Goals as goal

pub returns : goal.returns
returns c = record {
  value = IfOk-equal c.put-2.result c.put-2.new.out.items _ _ c.put-2.ensures.value
      (four_parts _ _ _ _ _ _ _ _
      (c.in_ok-put_numbered.ensures.value ∙ ap
      (λ n. c.args.out.now.items ++ numbered (codes "listener RTP/") n) c.from.ensures)
      c.in_ok-put.ensures.value
      c.in_ok-put_names.ensures.value);
}
