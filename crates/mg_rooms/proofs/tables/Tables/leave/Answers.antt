use Rattle.mg_rooms.proofs.Common.{ap, registry_of, with_members, without}
use Rattle.mg_rooms.proofs.CallLemmas.{left_there, unchanged_context, with_contexts}
use Rattle.mg_rooms.proofs.tables.Tables.leave.Goals as goal

pub invariant_of-self : goal.invariant_of-self
invariant_of-self c =
    let found = rw c.deref.ensures.value at c.in-Some.ensures.value in
    record {
      limits = c.self.invariant.limits;
      slots = c.self.invariant.slots;
      rooms = (left_there c.self.inside c.args.old.record.context c.args.old.record.number c.in-Some.room
          c.index_mut.result.now c.leave_entry.new.entry c.self.invariant found c.index_mut.ensures.value
          c.leave_entry.ensures.value).0;
    }

pub returns-in-Some : goal.returns-in-Some
returns-in-Some c = record {
  value =
      let found = rw c.deref.ensures.value at c.in-Some.ensures.value in
      rw (← c.self.view_is)
      (ap (with_contexts (registry_of c.self.inside))
      (left_there c.self.inside c.args.old.record.context c.args.old.record.number c.in-Some.room
      c.index_mut.result.now c.leave_entry.new.entry c.self.invariant found c.index_mut.ensures.value
      c.leave_entry.ensures.value).1);
}

pub returns-in_default : goal.returns-in_default
returns-in_default c = record {
  value =
      let found = rw c.deref.ensures.value at c.in_default.ensures.value in
      rw (← c.self.view_is) (unchanged_context c.self.inside c.args.old.record.context
      (λ x. with_members x (without c.args.old.record.number x.members)) found);
}
