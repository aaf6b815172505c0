use Rattle.mg_engine.proofs.Common.{ℕ, List, get_or, eqb, refl, subst, list_any, eq-eqb, IsTrue, list_any_at}
use Rattle.mg_engine.proofs.engine.Engine.seated.Goals as goal

pub seated_members-requires-clause-there : goal.seated_members-requires-clause-there
seated_members-requires-clause-there c i lt =
    let n = get_or c.members.result.now i 0 in
    let among = list_any_at (λ (m : ℕ). eqb m n) c.members.result.now i 0 lt (eq-eqb n n refl) in
    let (r, found, context) = (c.self.invariant.sound.members c.args.context n).0
    (subst (λ (ms : List ℕ). IsTrue (list_any (λ m. eqb m n) ms)) c.members.ensures.value among) in
    rw found refl

pub returns-clause-places : goal.returns-clause-places
returns-clause-places c = rw (← c.self.view_is) c.seated_members.ensures.places
