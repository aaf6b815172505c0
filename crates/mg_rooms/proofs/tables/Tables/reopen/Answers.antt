use Rattle.mg_rooms.proofs.Common.{ap, ◌∙◌, List, ℕ}
use Rattle.mg_rooms.specs.aids.Order.{place}
use Rattle.mg_rooms.specs.aids.Tables.{registry_of}
use Rattle.mg_rooms.proofs.CallLemmas.{with_contexts}
use Rattle.mg_rooms.proofs.PutLemmas.{table_put}
use Rattle.mg_rooms.proofs.tables.Tables.reopen.Goals as goal

pub invariant_of-self : goal.invariant_of-self
invariant_of-self c =
    let free = rw (← c.self.view_is) at c.requires.room in
    let new = rw (← c.self.view_is) at c.requires.number in
    let below = rw (← c.self.view_is) at c.requires.below in
    let kept = c.self.invariant in
    record {
      limits = kept.limits;
      slots = kept.slots;
      rooms = (table_put (λ x. x.number) (λ x. x.room) _ _ c.self.inside.rooms.items
          (record { number = c.args.context; room = c.args.room; members = c.alone.result }) kept.rooms c.requires.within
          below new free).0;
    }

pub returns : goal.returns
returns c =
    let free = rw (← c.self.view_is) at c.requires.room in
    let new = rw (← c.self.view_is) at c.requires.number in
    let below = rw (← c.self.view_is) at c.requires.below in
    let rest = registry_of c.self.inside in
    record {
      value = rw (← c.self.view_is) (ap (with_contexts rest)
          ((table_put (λ x. x.number) (λ x. x.room) _ _ c.self.inside.rooms.items
          (record { number = c.args.context; room = c.args.room; members = c.alone.result }) c.self.invariant.rooms
          c.requires.within below new free).1 ∙
          ap (λ (members : List ℕ). place (λ x. x.number)
          (record { number = c.args.context; room = c.args.room; members = members }) rest.contexts) c.alone.ensures.value));
    }
