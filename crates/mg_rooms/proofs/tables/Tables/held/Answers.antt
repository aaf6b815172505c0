use Rattle.mg_rooms.proofs.Common.{arith, length, ◌<◌, ◌≤◌}
use Rattle.mg_rooms.proofs.CallLemmas.{at_slot_is, at_slot_past}
use Rattle.mg_rooms.proofs.tables.Tables.held.Goals as goal

pub returns-then-slot-len-clause-value : goal.returns-then-slot-len-clause-value
returns-then-slot-len-clause-value c =
    let within : c.from-slot.result < length c.self.inside.slots.items = omega (arith, c.len.ensures) in
    rw (← c.self.view_is, ← c.from-slot.ensures)
    (at_slot_is c.self.inside c.from-slot.result c.index.result.now c.self.invariant within c.index.ensures)

pub returns-else-slot-len-clause-value : goal.returns-else-slot-len-clause-value
returns-else-slot-len-clause-value c =
    let past : length c.self.inside.slots.items ≤ c.from-slot.result = omega (arith, c.len.ensures) in
    rw (← c.self.view_is, ← c.from-slot.ensures) (at_slot_past c.self.inside c.from-slot.result c.self.invariant past)
