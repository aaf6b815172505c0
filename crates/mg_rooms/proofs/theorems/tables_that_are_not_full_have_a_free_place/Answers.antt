use Rattle.mg_rooms.proofs.StateLemmas.{seat_is_free, room_is_free}
use Rattle.mg_rooms.proofs.theorems.tables_that_are_not_full_have_a_free_place.Goals as goal

pub returns-clause-seat : goal.returns-clause-seat
returns-clause-seat c = seat_is_free

pub returns-clause-room : goal.returns-clause-room
returns-clause-room c = room_is_free
