use Rattle.mg_engine.proofs.Common.{ap, ◌∙◌, Place, view, member_place, hears}
use Rattle.mg_engine.proofs.FlowLemmas.{hears_places}
use Rattle.mg_engine.proofs.PlaceLemmas.{on_its_place}
use Rattle.mg_engine.proofs.engine.Engine.hears.Goals as goal

pub returns-in-Some-Some : goal.returns-in-Some-Some
returns-in-Some-Some c = record {
  value = λ w h.
      let k = view c.self.inside in
      let stands = rw (← c.self.view_is) at h in
      let t = c.in-Some-Some.speaking in
      let l = c.in-Some-Some.hearing in
      c.hears.ensures.kept
      ∙ ap (λ (p : Place). hears k.flows p c.member_place-to.result) c.member_place-from.ensures.value
      ∙ ap (hears k.flows (member_place t)) c.member_place-to.ensures.value
      ∙ hears_places k w c.self.invariant.sound c.self.invariant.members stands c.args.talker c.args.listener
      t.record l.record (member_place t) (member_place l)
      (on_its_place k.rooms c.args.talker t c.in-Some-Some.ensures.some)
      (on_its_place k.rooms c.args.listener l c.in-Some-Some.ensures'.some);
}
