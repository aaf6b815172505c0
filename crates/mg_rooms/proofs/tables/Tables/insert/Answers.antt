use Rattle.mg_rooms.proofs.Common.{ap, arith}
use Rattle.mg_rooms.specs.aids.Tables.{registry_of}
use Rattle.mg_rooms.proofs.CallLemmas.{with_more, slot_is_empty, inserted_kept, inserted_is}
use Rattle.mg_rooms.proofs.tables.Tables.insert.Goals as goal

pub index_mut-requires : goal.index_mut-requires
index_mut-requires c =
    let free = rw (← c.self.view_is) at c.requires.slot in
    let within = (slot_is_empty c.self.inside c.args.fresh.slot c.self.invariant free).1 in
    omega (arith, within, c.self.inside.slots.ok)

pub invariant_of-self : goal.invariant_of-self
invariant_of-self c =
    let number = rw (← c.self.view_is) at c.requires.number in
    record {
      limits = c.self.invariant.limits;
      slots = inserted_kept _ _ _ c.args.fresh c.self.invariant.slots number;
      rooms = c.self.invariant.rooms;
    }

pub returns : goal.returns
returns c = record {
  value =
      let free = rw (← c.self.view_is) at c.requires.slot in
      let number = rw (← c.self.view_is) at c.requires.number in
      rw (← c.self.view_is) (ap (with_more (registry_of c.self.inside))
      (inserted_is c.self.inside c.args.fresh c.self.invariant free number));
}
