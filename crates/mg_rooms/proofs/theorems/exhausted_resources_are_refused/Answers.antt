use Rattle.mg_rooms.proofs.StateLemmas.{slot_used_up, seat_used_up, context_used_up}
use Rattle.mg_rooms.proofs.theorems.exhausted_resources_are_refused.Goals as goal

pub returns-clause-slot : goal.returns-clause-slot
returns-clause-slot c = slot_used_up

pub returns-clause-seat : goal.returns-clause-seat
returns-clause-seat c = seat_used_up

pub returns-clause-context : goal.returns-clause-context
returns-clause-context c = context_used_up
