use Rattle.mg_rooms.proofs.Common.{List, Option, Some, ap, sym, subst}
use Rattle.mg_rooms.specs.declared.record.Record.{Record}
use Rattle.mg_rooms.specs.aids.Tables.{registry_of, HoldsOnce}
use Rattle.mg_rooms.proofs.CallLemmas.{replaced_there, with_terminations, unchanged_termination}
use Rattle.mg_rooms.proofs.tables.Tables.replace.Goals as goal

pub slot_of-requires : goal.slot_of-requires
slot_of-requires c = record {
  once = subst (λ (t : List (Option Record)). HoldsOnce (λ r. r.number) t)
      (sym c.deref.ensures.value) c.self.invariant.slots.once;
}

pub invariant_of-self : goal.invariant_of-self
invariant_of-self c =
    let found = rw c.deref.ensures.value at c.in-Some.ensures.value in
    let same = rw (← c.self.view_is) at c.requires.slot in
    record {
      limits = c.self.invariant.limits;
      slots = (replaced_there c.self.inside c.args.changed c.in-Some.slot c.self.invariant found same).0;
      rooms = c.self.invariant.rooms;
    }

pub returns-in-Some : goal.returns-in-Some
returns-in-Some c = record {
  value =
      let found = rw c.deref.ensures.value at c.in-Some.ensures.value in
      let same = rw (← c.self.view_is) at c.requires.slot in
      rw (← c.self.view_is) (ap (with_terminations (registry_of c.self.inside))
      (replaced_there c.self.inside c.args.changed c.in-Some.slot c.self.invariant found same).1);
}

pub returns-in_default : goal.returns-in_default
returns-in_default c = record {
  value =
      let found = rw c.deref.ensures.value at c.in_default.ensures.value in
      rw (← c.self.view_is) (unchanged_termination c.self.inside c.args.changed.number (λ _. Some c.args.changed)
      found);
}
