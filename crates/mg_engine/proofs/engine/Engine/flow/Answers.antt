use Rattle.mg_engine.proofs.Common.{ℕ, IsTrue, sym, ap, subst, ◌∙◌, has_seat, Place, view, member_place}
use Rattle.mg_flow.specs.aids.Table as table
use Rattle.mg_engine.proofs.FlowLemmas.{flow_places}
use Rattle.mg_engine.proofs.PlaceLemmas.{on_its_place}
use Rattle.mg_engine.proofs.engine.Engine.flow.Goals as goal

pub open-requires : goal.open-requires
open-requires c =
    let l = c.in-Some-Some.hearing in
    subst (λ (p : Place). IsTrue (table.holds c.self.inside.flows p)) (sym c.member_place-to.ensures.value)
    (c.self.invariant.members.each c.args.listener l.record (member_place l)
    (on_its_place c.self.inside.rooms c.args.listener l c.in-Some-Some.ensures'.some)).held

pub returns-then-from-to : goal.returns-then-from-to
returns-then-from-to c = record {
  value = λ w h.
      let k = view c.self.inside in
      let stands = rw (← c.self.view_is) at h in
      let t = c.in-Some-Some.speaking in
      let l = c.in-Some-Some.hearing in
      let from = c.member_place-from.result in
      let to = c.member_place-to.result in
      let flows = flow_places k w c.self.invariant.sound c.self.invariant.members stands c.args.talker
      c.args.listener t.record l.record (member_place t) (member_place l)
      (on_its_place k.rooms c.args.talker t c.in-Some-Some.ensures.some)
      (on_its_place k.rooms c.args.listener l c.in-Some-Some.ensures'.some) in
      c.has_seat.ensures
      ∙ ap (has_seat c.open.result.now) c.from.ensures ∙ c.open.ensures.kept from.seat
      ∙ ap (λ (room : ℕ). let p : Place = record { room = room; seat = from.seat } in table.flows k.flows p to)
      (sym c.if-from-to.true) ∙ ap (λ (p : Place). table.flows k.flows p to) c.member_place-from.ensures.value
      ∙ ap (table.flows k.flows (member_place t)) c.member_place-to.ensures.value ∙ flows;
}
