use Rattle.mg_engine.proofs.Common.{ℕ, List, length, map, sym, ap, ◌∙◌, arith, length-map, map-id, slot_at}
use Rattle.std.proofs.lemmas.Iterator.Consumers.{YieldsList-from_first, YieldsList-turn, YieldsList-end}
use Rattle.mg_topology.specs.Mask.{seats_of}
use Rattle.mg_engine.proofs.mixing.rows_on.Goals as goal

pub push-requires : goal.push-requires
push-requires c =
    let f = λ (seat : ℕ). slot_at c.args.seating.now (record { room = c.args.room; seat = seat }) in
    let turn = YieldsList-turn (YieldsList-from_first (λ (x : ℕ). x) (λ (left : List ℕ). left) (seats_of c.args.seats)
    (c.into_iter-seat-iterator.ensures.into_iter_gives ∙ c.seats-seat-items.ensures.value)) c.loop-seat.yielded _
    c.loop-seat.yielded_by _ _ c.in-Some.seat c.in-Some.is c.next.ensures.steps in
    let few = ap (λ (xs : List ℕ). length xs) c.seats-seat-items.ensures.value in
    let long = ap (λ (xs : List ℕ). length xs) c.loop-seat.invariant ∙ length-map c.loop-seat.yielded f in
    (omega arith, omega (arith, turn.0, c.seats-seat-items.ensures.at_most, few, long))

pub returns : goal.returns
returns c =
    let f = λ (seat : ℕ). slot_at c.args.seating.now (record { room = c.args.room; seat = seat }) in
    let all = YieldsList-end (YieldsList-from_first (λ (x : ℕ). x) (λ (left : List ℕ). left) (seats_of c.args.seats)
    (c.into_iter-seat-iterator.ensures.into_iter_gives ∙ c.seats-seat-items.ensures.value)) c.loop-seat.yielded _
    c.loop-seat.yielded_by _ _ c.in-None.is c.next.ensures.steps in
    record { value = c.loop-seat.invariant ∙ ap (map f) (sym (map-id c.loop-seat.yielded) ∙ all.0) }
