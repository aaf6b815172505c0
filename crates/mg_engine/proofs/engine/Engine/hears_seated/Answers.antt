use Rattle.mg_engine.proofs.Common.{ap, ◌∙◌, Place, view, hears, seated_place}
use Rattle.mg_engine.proofs.FlowLemmas.{hears_places}
use Rattle.mg_engine.proofs.engine.Engine.hears_seated.Goals as goal

pub returns : goal.returns
returns c = record {
  value = λ w h.
      let k = view c.self.inside in
      let stands = rw (← c.self.view_is) at h in
      let t = c.args.talker in
      let l = c.args.listener in
      let (a, first) = rw (← c.self.view_is) at c.requires.talker in
      let (b, second) = rw (← c.self.view_is) at c.requires.listener in
      c.hears.ensures.kept
      ∙ ap (λ (p : Place). hears k.flows p c.place-to.result) c.place-from.ensures.value
      ∙ ap (hears k.flows (seated_place t)) c.place-to.ensures.value
      ∙ hears_places k w c.self.invariant.sound c.self.invariant.members stands t.number l.number a b
      (seated_place t) (seated_place l) first second;
}
