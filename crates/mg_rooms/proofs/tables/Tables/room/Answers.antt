use Rattle.mg_rooms.proofs.Common.{ap, option_map}
use Rattle.mg_rooms.specs.declared.context.Context.{Context}
use Rattle.mg_rooms.proofs.CallLemmas.{room_some}
use Rattle.mg_rooms.proofs.TableLemmas.{lookup_none}
use Rattle.mg_rooms.proofs.tables.Tables.room.Goals as goal

pub returns-in_err-room : goal.returns-in_err-room
returns-in_err-room c = record {
  value =
      let found = rw c.deref.ensures.value at c.in_err-room.ensures.value in
      rw (c.from_residual.ensures, ← c.self.view_is)
      (ap (option_map (λ (x : Context). x.room)) (lookup_none (λ x. x.number) (λ x. x.room)
      c.args.context c.self.inside.rooms.items found));
}

pub returns : goal.returns
returns c = record {
  value =
      let found = rw c.deref.ensures.value at c.in_ok-room.ensures.value in
      rw (← c.self.view_is) (room_some c.self.inside c.args.context c.in_ok-room.room c.self.invariant found);
}
