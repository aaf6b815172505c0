use Rattle.mg_engine.proofs.Common.{◌≡◌, ℕ, Option, Some, None, refl, sym, ap, subst, ◌∙◌, Record, Registry, Context, Place, view, record_at, context_at, place_of, sibling_place}
use Rattle.std.specs.Option.{IsSome, option_map}
use Rattle.mg_engine.proofs.FlowLemmas.{flow_places}
use Rattle.mg_engine.proofs.PlaceLemmas.{on_place}
use Rattle.mg_engine.proofs.engine.Engine.talkers.Goals as goal

-- Another member of the context is in the same room.
beside : (seat other : ℕ) (p : Place) (o : Option Context) →
    option_map (λ x. record { room = x.room; seat = seat }) o ≡ Some p →
    option_map (λ x. let q : Place = record { room = x.room; seat = other } in q) o ≡ Some (sibling_place p other)
beside seat other p None e = absurd (cc e)
beside seat other p (Some x) e = let k : x.room ≡ p.room = cc e in λ i. Some (record { room = k i; seat = other })

on_room : (w : Registry) (t l : Record) (p : Place) → t.context ≡ l.context → place_of w l ≡ Some p →
    place_of w t ≡ Some (sibling_place p t.seat)
on_room w t l p same e =
    ap (λ (c : ℕ). option_map (λ x. let q : Place = record { room = x.room; seat = t.seat } in q) (context_at w c)) same
    ∙ beside l.seat t.seat p (context_at w l.context) e

pub unwrap-place-requires : goal.unwrap-place-requires
unwrap-place-requires c =
    let l = c.args.listener.now in
    let there = rw (← c.self.view_is) at c.requires.there in
    let (p, on) = on_place c.self.inside.rooms l.number l c.self.invariant.sound there in
    subst (λ (o : Option Place). IsSome o) (sym (c.place_of.ensures.value ∙ on.place)) refl

pub open-requires : goal.open-requires
open-requires c =
    let l = c.args.listener.now in
    let there = rw (← c.self.view_is) at c.requires.there in
    (c.self.invariant.members.each l.number l c.unwrap-place.result (record {
      found = there;
      place = sym c.place_of.ensures.value ∙ c.unwrap-place.ensures;
    })).held

pub returns : goal.returns
returns c = record {
  value = λ w t h found same.
      let k = view c.self.inside in
      let stands = rw (← c.self.view_is) at h in
      let there = rw (← c.self.view_is) at c.requires.there in
      let l = c.args.listener.now in
      let p = c.unwrap-place.result in
      let on : place_of k.rooms l ≡ Some p = sym c.place_of.ensures.value ∙ c.unwrap-place.ensures in
      let from : record_at k.rooms t.number ≡ Some t =
      subst (λ (x : Registry). record_at x t.number ≡ Some t) stands.rooms found in
      c.open.ensures.kept t.seat
      ∙ flow_places k w c.self.invariant.sound c.self.invariant.members stands t.number l.number t l
      (sibling_place p t.seat) p (record { found = from; place = on_room k.rooms t l p same on })
      (record { found = there; place = on });
}
