use Rattle.mg_engine.proofs.Common.{ℕ, List, Some, refl, sym, ap, ◌∙◌, option_map, record_at, view, TerminationMedia, media_of, media_at, SlotMedia}
use Rattle.mg_words.specs.declared.stats.Stats.{Stats}
use Rattle.mg_engine.proofs.EditLemmas.{none_too}
use Rattle.mg_engine.proofs.GatewayLemmas.{has_media, with_slot, with_no_slot}
use Rattle.mg_engine.proofs.engine.Engine.stats.Goals as goal

pub returns-in-Some : goal.returns-in-Some
returns-in-Some c = record {
  value = λ w h.
      let k = view c.self.inside in
      let (r, there, slot) = with_slot (record_at k.rooms c.args.number) c.in-Some.slot
      (sym c.slot_of.ensures.value ∙ c.in-Some.is) in
      let (s, found, is) = has_media k w c.args.number r (rw (← c.self.view_is) at h) there in
      let stats = c.stats_in.ensures.value
      ∙ ap (λ (ms : List SlotMedia). (media_at ms c.in-Some.slot).stats) c.as_slice.ensures.value
      ∙ ap (λ (n : ℕ). (media_at k.media n).stats) (sym slot) ∙ is.stats in
      ap (λ (x : Stats). Some x) stats ∙ ap (option_map (λ (x : TerminationMedia). x.stats)) (sym found);
}

pub returns-in-None : goal.returns-in-None
returns-in-None c = record {
  value = λ w h.
      let k = view c.self.inside in
      let stands = rw (← c.self.view_is) at h in
      let none = with_no_slot (record_at k.rooms c.args.number) (sym c.slot_of.ensures.value ∙ c.in-None.is) in
      ap (option_map (λ (x : TerminationMedia). x.stats))
      (sym (none_too k w c.args.number stands.numbers none (media_of w c.args.number) refl));
}
