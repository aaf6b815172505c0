use Rattle.mg_engine.proofs.Common.{◌≡◌, map, slot_at}
use Rattle.mg_engine.proofs.mixing.rows_on.Given as goal

abbrev pub invariant-loop-seat : goal.invariant-loop-seat
invariant-loop-seat l = l.rows.items ≡ map (λ seat. slot_at l.seating (record { room = l.room; seat = seat })) l.yielded
