use Rattle.mg_engine.proofs.Common.{ℕ, List, [], ◌∷◌, ◌++◌, map, take, sym, ap, subst, ◌∙◌, All, map-append, take_more, IsOnSeat, All-push}
use Rattle.mg_engine.specs.declared.seated_member.SeatedMember.{SeatedMember}
use Rattle.mg_engine.proofs.seated_member.seated_members.Goals as goal

pub loop-number-preserved : goal.loop-number-preserved
loop-number-preserved c =
    let f : SeatedMember → ℕ = λ m. m.number in
    let xs = c.loop-number.seated.items in
    let x = c.seated_member.result in
    let ns = c.args.numbers.now in
    let i = c.loop-number.number-index in
    record {
      numbers = ap (map f) c.push.ensures.items ∙ map-append f xs (x ∷ [])
          ∙ ap (λ (ys : List ℕ). ys ++ x.number ∷ []) c.loop-number.invariant.numbers
          ∙ ap (λ (n : ℕ). take i ns ++ n ∷ []) c.seated_member.ensures.number
          ∙ sym (take_more ns i 0 c.loop-number-test.true);
      places = subst (λ (ys : List SeatedMember). All (IsOnSeat c.args.rooms.now) ys) (sym c.push.ensures.items)
          (All-push (IsOnSeat c.args.rooms.now) xs x c.loop-number.invariant.places c.seated_member.ensures.place);
    }
