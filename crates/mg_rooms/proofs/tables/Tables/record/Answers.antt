use Rattle.mg_rooms.proofs.TableLemmas.{lookup_some, lookup_none}
use Rattle.mg_rooms.proofs.tables.Tables.record.Goals as goal

pub returns-in_err-slot-clause-value : goal.returns-in_err-slot-clause-value
returns-in_err-slot-clause-value c =
    let found = rw c.deref.ensures.value at c.in_err-slot.ensures.value in
    rw (c.from_residual.ensures, ← c.self.view_is) (lookup_none (λ r. r.number) (λ r. r.slot) c.args.number c.self.inside.slots.items found)

pub returns-clause-value : goal.returns-clause-value
returns-clause-value c =
    let found = rw c.deref.ensures.value at c.in_ok-slot.ensures.value in
    rw (← c.self.view_is) (lookup_some (λ r. r.number) (λ r. r.slot) c.args.number c.self.inside.slots.items
    c.in_ok-slot.slot c.index.result.now found c.index.ensures)
