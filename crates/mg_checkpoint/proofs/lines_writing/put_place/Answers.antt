use Rattle.std.proofs.Common.{◌++◌, codes, ap, ◌∙◌}
use Rattle.std.proofs.lemmas.Result.{IfOk-equal}
use Rattle.mg_checkpoint.specs.aids.Forms.{numbered}
use Rattle.mg_checkpoint.proofs.WritingLemmas.{four_parts}
use Rattle.mg_checkpoint.proofs.lines_writing.put_place.Goals as goal

pub returns : goal.returns
returns c = record {
  value = IfOk-equal c.put_numbered-4.result c.put_numbered-4.new.out.items _ _ c.put_numbered-4.ensures.value
      (ap (λ n. c.put_numbered-3.new.out.items ++ numbered (codes "seat ") n) c.from-4.ensures
      ∙ four_parts _ _ _ _ _ _ _ _
      (c.in_ok-put_numbered.ensures.value ∙ ap
      (λ n. c.args.out.now.items ++ numbered (codes "termination RTP/") n) c.from.ensures)
      (c.in_ok-put_numbered-2.ensures.value ∙ ap
      (λ n. c.put_numbered.new.out.items ++ numbered (codes "context ") n) c.from-2.ensures)
      (c.in_ok-put_numbered-3.ensures.value ∙ ap
      (λ n. c.put_numbered-2.new.out.items ++ numbered (codes "slot ") n) c.from-3.ensures));
}
