use Rattle.std.proofs.Common.{ap, ◌∙◌}
use Rattle.std.proofs.lemmas.Result.{IfOk-weaker}
use Rattle.mg_rooms.specs.Registry.{Registry}
use Rattle.mg_core.specs.declared.counts.Counts.{Counts}
use Rattle.mg_checkpoint.proofs.SavingLemmas.{same_opening}
use Rattle.mg_checkpoint.proofs.saving.put_first.Goals as goal

pub returns : goal.returns
returns c = record {
  value = IfOk-weaker c.put_opening.result _ _ (λ _ last w stands.
      let rooms = c.rooms-rooms.ensures.value w.gateway stands.gateway in
      last ∙ same_opening _ _ _ _ _ _ _ _ _ (ap (λ (v : Counts). v.control) stands.counts)
      (ap (λ (v : Counts). v.ticks) stands.counts)
      (c.next_termination-next.ensures.value ∙ ap (λ (k : Registry). k.next_termination) rooms)
      (c.next_context.ensures.value ∙ ap (λ (k : Registry). k.next_context) rooms)) c.put_opening.ensures.value;
}
