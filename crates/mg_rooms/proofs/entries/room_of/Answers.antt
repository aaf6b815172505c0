use Rattle.mg_rooms.proofs.Common.{length, refl, sym, ◌∙◌, ltb-true, slice_get_read}
use Rattle.mg_rooms.proofs.HintLemmas.{found_here}
use Rattle.mg_rooms.proofs.entries.room_of.Goals as goal

pub returns-in-Some-clause-value : goal.returns-in-Some-clause-value
returns-in-Some-clause-value c =
    let t = c.args.rooms.now in
    let seen = c.in-Some.ensures.lookup in
    let at = slice_get_read t (length t) c.from-hinted.result c.in-Some.entry.now refl (ltb-true _ _ (sym seen.0))
    seen.1 in
    found_here (λ x. x.number) t c.from-hinted.result c.args.number c.in-Some.entry.now c.requires.once at
    (sym c.has_context.ensures ∙ c.if-has_context.true)
