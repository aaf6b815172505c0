use Rattle.std.proofs.Common.{◌≡◌, ◌++◌, Some, sym, ap, subst, ◌∙◌}
use Rattle.std.proofs.lemmas.Result.{IfOk-weaker}
use Rattle.std.specs.List.{slice_get}
use Rattle.mg_rooms.specs.Registry.{Registry}
use Rattle.mg_checkpoint.specs.aids.Text.{muted_line}
use Rattle.mg_checkpoint.proofs.SavingLemmas.{said_at, said_with, three_parts}
use Rattle.mg_checkpoint.proofs.saving.put_termination.Goals as goal

pub returns : goal.returns
returns c = record {
  value = IfOk-weaker c.put_muted.result _ _ (λ _ last w stands.
      let r = c.termination-record.result in
      let sent = c.sent_media.result in
      let at = subst (λ (k : Registry). slice_get k.terminations c.args.place ≡ Some r) (sym stands.rooms)
      c.termination-record.ensures.value in (
        said_with w r sent,
        said_at w c.args.place r sent at (c.sent_media.ensures.value w stands),
        three_parts _ _ _ _ _ _ _ c.in_ok-put_record.ensures.value c.in_ok-put_sent.ensures.value
            (last ∙ ap (λ ms. c.put_sent.new.out.items ++ muted_line r.number ms)
            (c.as_slice.ensures.value ∙ c.muted_for-muted.ensures.value w stands)),
      )) c.put_muted.ensures.value;
}
