use Rattle.mg_rooms.proofs.Common.{ap}
use Rattle.mg_rooms.specs.aids.Tables.{registry_of}
use Rattle.mg_rooms.proofs.CallLemmas.{room_is_empty, few_rooms, made_kept, made_context_is, with_made}
use Rattle.mg_rooms.proofs.tables.Tables.make.Goals as goal

pub index_mut-requires : goal.index_mut-requires
index_mut-requires c =
    let can = rw (← c.self.view_is) at c.requires.can in
    few_rooms c.self.inside c.args.room (room_is_empty c.self.inside c.args.room c.self.invariant can.0).1

pub invariant_of-self : goal.invariant_of-self
invariant_of-self c =
    let can = rw (← c.self.view_is) at c.requires.can in
    record {
      limits = c.self.invariant.limits;
      slots = c.self.invariant.slots;
      rooms = made_kept _ _ _ _ c.self.invariant.rooms can.1;
    }

pub returns : goal.returns
returns c = record {
  value =
      let can = rw (← c.self.view_is) at c.requires.can in
      rw (← c.self.view_is)
      (ap (with_made (registry_of c.self.inside))
      (made_context_is c.self.inside c.args.context c.args.room c.args.member c.alone.result c.self.invariant can.0
      can.1 c.alone.ensures.value));
}
