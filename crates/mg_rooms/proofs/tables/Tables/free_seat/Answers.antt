use Rattle.mg_rooms.proofs.Common.{◌∙◌}
use Rattle.mg_rooms.proofs.CallLemmas.{free_seat_is}
use Rattle.mg_rooms.proofs.tables.Tables.free_seat.Goals as goal

pub returns-in_err-seat : goal.returns-in_err-seat
returns-in_err-seat c = record {
  value =
      let held = rw c.deref.ensures.value at c.held_seats-held.ensures.value in
      rw (c.from_residual.ensures, ← c.self.view_is)
      (c.in_err-seat.ensures.value ∙ free_seat_is c.self.inside c.args.context c.held_seats-held.result
      c.held_seats-held.ensures.long held);
}

pub returns : goal.returns
returns c = record {
  value =
      let held = rw c.deref.ensures.value at c.held_seats-held.ensures.value in
      rw (← c.self.view_is) (c.in_ok-seat.ensures.value ∙
      free_seat_is c.self.inside c.args.context c.held_seats-held.result c.held_seats-held.ensures.long held);
}
