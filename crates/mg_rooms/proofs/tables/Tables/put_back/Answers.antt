use Rattle.mg_rooms.proofs.Common.{ap}
use Rattle.mg_rooms.specs.aids.Tables.{registry_of}
use Rattle.mg_rooms.proofs.CallLemmas.{with_terminations}
use Rattle.mg_rooms.proofs.PutLemmas.{table_put}
use Rattle.mg_rooms.proofs.tables.Tables.put_back.Goals as goal

pub invariant_of-self : goal.invariant_of-self
invariant_of-self c =
    let free = rw (← c.self.view_is) at c.requires.slot in
    let within = rw (← c.self.view_is) at c.requires.within in
    let new = rw (← c.self.view_is) at c.requires.number in
    let below = rw (← c.self.view_is) at c.requires.below in
    let kept = c.self.invariant in
    record {
      limits = kept.limits;
      slots = (table_put (λ r. r.number) (λ r. r.slot) _ _ c.self.inside.slots.items c.args.termination kept.slots within
          below new free).0;
      rooms = kept.rooms;
    }

pub returns : goal.returns
returns c =
    let free = rw (← c.self.view_is) at c.requires.slot in
    let within = rw (← c.self.view_is) at c.requires.within in
    let new = rw (← c.self.view_is) at c.requires.number in
    let below = rw (← c.self.view_is) at c.requires.below in
    record {
      value = rw (← c.self.view_is) (ap (with_terminations (registry_of c.self.inside))
          (table_put (λ r. r.number) (λ r. r.slot) _ _ c.self.inside.slots.items c.args.termination c.self.invariant.slots
          within below new free).1);
    }
