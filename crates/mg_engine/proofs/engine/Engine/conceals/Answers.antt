use Rattle.mg_engine.proofs.Common.{ℕ, List, refl, sym, ap, ◌∙◌, is_concealed, record_at, view, media_of, media_at, SlotMedia, conceals_in, PlayList, ticked, is_concealing}
use Rattle.mg_engine.proofs.EditLemmas.{none_too}
use Rattle.mg_engine.proofs.GatewayLemmas.{has_media, with_slot, with_no_slot}
use Rattle.mg_engine.proofs.engine.Engine.conceals.Goals as goal

pub returns-in-Some : goal.returns-in-Some
returns-in-Some c = record {
  value = λ w h.
      let k = view c.self.inside in
      let (r, there, slot) = with_slot (record_at k.rooms c.args.number) c.in-Some.slot
      (sym c.slot_of.ensures.value ∙ c.in-Some.is) in
      let (s, found, is) = has_media k w c.args.number r (rw (← c.self.view_is) at h) there in
      c.conceals_in.ensures.value
      ∙ ap (λ (ms : List SlotMedia). is_concealing (media_at ms c.in-Some.slot)) c.as_slice.ensures.value
      ∙ ap (λ (n : ℕ). is_concealing (media_at k.media n)) (sym slot)
      ∙ ap (λ (list : PlayList). is_concealed ((ticked list).1)) is.play ∙ ap conceals_in (sym found);
}

pub returns-in-None : goal.returns-in-None
returns-in-None c = record {
  value = λ w h.
      let k = view c.self.inside in
      let stands = rw (← c.self.view_is) at h in
      let none = with_no_slot (record_at k.rooms c.args.number) (sym c.slot_of.ensures.value ∙ c.in-None.is) in
      ap conceals_in (sym (none_too k w c.args.number stands.numbers none (media_of w c.args.number) refl));
}
