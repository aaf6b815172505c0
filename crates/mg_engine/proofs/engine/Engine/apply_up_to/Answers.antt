use Rattle.mg_engine.proofs.Common.{rules, ◌≡◌, List, Ok, refl, ap, subst, ◌∙◌, Any, Triple, Overlaps, hears, members_at, view, check_triples, with_triples, AreMatched, hears_after}
use Rattle.mg_engine.proofs.TripleLemmas.{refused_there, refused_triples, done_triples, err_is, ok_is, has_still, hears_triples, words_stand}
use Rattle.mg_engine.proofs.engine.Engine.apply_up_to.Goals.{in-Ok, in-Err}
use Rattle.mg_engine.proofs.engine.Engine.apply_up_to.Goals as goal

pub returns-in_err-at-clause-outcome : goal.returns-in_err-at-clause-outcome
returns-in_err-at-clause-outcome g c w h =
    let k = view c.self.inside in
    let stands = rw (← c.self.view_is) at h in
    err_is c.args.self.now c.from_residual.result _ c.in_err-at.field-0.0 (search rules)
    (refused_there k w c.args.target c.args.triples.now c.in_err-at.field-0.0 stands
    c.in_err-at.ensures.value)

pub returns-in_err-by_seats-clause-outcome : goal.returns-in_err-by_seats-clause-outcome
returns-in_err-by_seats-clause-outcome g c w h =
    let k = view c.self.inside in
    let stands = rw (← c.self.view_is) at h in
    err_is c.args.self.now c.from_residual-in_err-by_seats.result _ c.in_err-by_seats.field-0.0 (search rules)
    (refused_triples k w c.args.target c.args.triples.now c.in_ok-at.at.context c.in_err-by_seats.field-0.0
    stands c.in_ok-at.ensures.value.0 (c.in_err-by_seats.ensures.value))

pub invariant_of-self : goal.invariant_of-self
invariant_of-self g c = assumption (
  has_still c.self.inside.rooms c.self.inside.flows c.on_triples.new.self
      c.on_triples.ensures.places c.self.invariant.members,
  c.self.invariant,
)

pub returns-clause-outcome : goal.returns-clause-outcome
returns-clause-outcome g c w h =
    let k = view c.self.inside in
    let stands = rw (← c.self.view_is) at h in
    let at = c.in_ok-at.at in
    let xs = c.args.triples.now in
    let ys = c.in_ok-by_seats.by_seats.items in
    let members = members_at k.rooms at.context in
    let parts : (check_triples members xs ≡ Ok tt) × AreMatched k.rooms at.context members xs ys × ¬ Any Overlaps ys =
    c.in_ok-by_seats.ensures.value in
    let (checked, matched, none) = parts in
    let es = with_triples (members_at k.rooms at.context) xs w.edits in
    elim c.match-on_triples.branch [
      | in-Ok b ↦
          (let heard = hears_triples k.rooms at.context at.room k.flows c.on_triples.new.self xs ys w.edits
          c.self.invariant.sound c.in_ok-at.ensures.value.1 matched
          c.self.invariant.members c.on_triples.ensures.others
          (λ t l same together. b.in-Ok.ensures.hears t l same together ∙
          ap (λ (zs : List Triple). hears_after zs t.seat l.seat (hears k.flows t l)) c.as_slice.ensures.value)
          stands.hears in
          ok_is _ c.match-on_triples.result _ at.context (record w { edits = es }) b.result-is
          (done_triples k w c.args.target xs at.context stands c.in_ok-at.ensures.value.0 checked)
          (words_stand k c.on_triples.new.self w es stands heard))
      | in-Err b ↦ absurd (none (subst (λ (zs : List Triple). Any Overlaps zs) c.as_slice.ensures.value
          (b.in-Err.ensures.overlap.0 refl)))
    ]
