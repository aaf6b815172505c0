use Rattle.std.proofs.Common.{◌++◌, sym, ap, ◌∙◌}
use Rattle.std.proofs.lemmas.Result.{IfOk-weaker}
use Rattle.std.specs.List.{flat_map}
use Rattle.mg_checkpoint.specs.aids.Text.{reply_line}
use Rattle.mg_checkpoint.proofs.WritingLemmas.{four_parts}
use Rattle.mg_checkpoint.proofs.saving.put_body.Goals as goal

pub returns : goal.returns
returns c = record {
  value = IfOk-weaker c.put_replies.result _ _ (λ _ last w stands.
      last ∙ ap (λ rs. c.put_terminations.new.out.items ++ flat_map reply_line rs) (sym stands.replies)
      ∙ four_parts _ _ _ _ _ _ _ _ (c.in_ok-put_first.ensures.value w stands)
      (c.in_ok-put_contexts.ensures.value w.gateway stands.gateway)
      (c.in_ok-put_terminations.ensures.value w.gateway stands.gateway)) c.put_replies.ensures.value;
}
