use Rattle.mg_rooms.proofs.Common.{ap, None}
use Rattle.mg_rooms.specs.aids.Tables.{registry_of}
use Rattle.mg_rooms.proofs.CallLemmas.{removed_there, with_terminations, unchanged_termination}
use Rattle.mg_rooms.proofs.tables.Tables.remove.Goals as goal

pub invariant_of-self : goal.invariant_of-self
invariant_of-self c =
    let found = rw c.deref.ensures.value at c.in-Some.ensures.value in
    record {
      limits = c.self.invariant.limits;
      slots = (removed_there c.self.inside c.args.old.number c.in-Some.slot c.self.invariant found).0;
      rooms = c.self.invariant.rooms;
    }

pub returns-in-Some : goal.returns-in-Some
returns-in-Some c = record {
  value =
      let found = rw c.deref.ensures.value at c.in-Some.ensures.value in
      rw (← c.self.view_is) (ap (with_terminations (registry_of c.self.inside))
      (removed_there c.self.inside c.args.old.number c.in-Some.slot c.self.invariant found).1);
}

pub returns-in_default : goal.returns-in_default
returns-in_default c = record {
  value =
      let found = rw c.deref.ensures.value at c.in_default.ensures.value in
      rw (← c.self.view_is) (unchanged_termination c.self.inside c.args.old.number (λ _. None) found);
}
