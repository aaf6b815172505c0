use Rattle.mg_rooms.proofs.Common.{ap}
use Rattle.mg_rooms.specs.aids.Tables.{registry_of}
use Rattle.mg_rooms.proofs.CallLemmas.{may_enter, entered_there, unchanged_context, with_contexts, with_last}
use Rattle.mg_rooms.proofs.tables.Tables.join.Goals as goal

pub enter_entry-requires : goal.enter_entry-requires
enter_entry-requires c =
    let found = rw c.deref.ensures.value at c.in-Some.ensures.value in
    let few = rw (← c.self.view_is) at c.requires.room in
    record {
      room = may_enter c.self.inside c.args.context c.in-Some.room c.index_mut.result.now found
          c.index_mut.ensures.value few;
    }

pub invariant_of-self : goal.invariant_of-self
invariant_of-self c =
    let found = rw c.deref.ensures.value at c.in-Some.ensures.value in
    record {
      limits = c.self.invariant.limits;
      slots = c.self.invariant.slots;
      rooms = (entered_there c.self.inside c.args.context c.args.number c.in-Some.room c.index_mut.result.now
          c.enter_entry.new.entry c.self.invariant found c.index_mut.ensures.value c.enter_entry.ensures.value).0;
    }

pub returns-in-Some : goal.returns-in-Some
returns-in-Some c = record {
  value =
      let found = rw c.deref.ensures.value at c.in-Some.ensures.value in
      rw (← c.self.view_is)
      (ap (with_contexts (registry_of c.self.inside))
      (entered_there c.self.inside c.args.context c.args.number c.in-Some.room c.index_mut.result.now
      c.enter_entry.new.entry c.self.invariant found c.index_mut.ensures.value c.enter_entry.ensures.value).1);
}

pub returns-in_default : goal.returns-in_default
returns-in_default c = record {
  value =
      let found = rw c.deref.ensures.value at c.in_default.ensures.value in
      rw (← c.self.view_is) (unchanged_context c.self.inside c.args.context (with_last c.args.number) found);
}
