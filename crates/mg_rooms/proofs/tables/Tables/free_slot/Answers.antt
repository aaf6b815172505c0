use Rattle.mg_rooms.proofs.Common.{None, Some}
use Rattle.mg_rooms.proofs.CallLemmas.{free_slot_is}
use Rattle.mg_rooms.proofs.tables.Tables.free_slot.Goals as goal

pub returns-in_err-slot-clause-value : goal.returns-in_err-slot-clause-value
returns-in_err-slot-clause-value c =
    let found = rw c.deref.ensures.value at c.in_err-slot.ensures.value in
    rw (c.from_residual.ensures, ← c.self.view_is) (free_slot_is c.self.inside None c.self.invariant found)

pub returns-clause-value : goal.returns-clause-value
returns-clause-value c =
    let found = rw c.deref.ensures.value at c.in_ok-slot.ensures.value in
    rw (← c.self.view_is) (free_slot_is c.self.inside (Some c.in_ok-slot.slot) c.self.invariant found)
