use Rattle.mg_rooms.proofs.Common.{◌<◌, ◌==◌, ◌&&◌, ◌∙◌, true, false, length, sym, arith}
use Rattle.mg_rooms.proofs.OrderLemmas.{any-in_order}
use Rattle.mg_rooms.proofs.tables.Tables.has_seat.Goals as goal
use Rattle.std.proofs.lemmas.List.{get_or_default}

pub returns : goal.returns
returns c =
    let held = c.held_seats-held.result in
    let within : c.args.seat < length held = omega (arith, c.requires.seat, c.held_seats-held.ensures.long) in
    record {
      value = rw (← c.self.view_is, c.from.ensures) (get_or_default held c.args.seat false true within ∙
          c.held_seats-held.ensures.value c.args.seat c.requires.seat ∙ rw c.deref.ensures.value
          (sym (any-in_order (λ r. r.number) (λ r. (r.context == c.args.context) && (r.seat == c.args.seat))
          c.self.inside.slots.items)));
    }
