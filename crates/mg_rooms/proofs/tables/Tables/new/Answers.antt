use Rattle.mg_rooms.proofs.Common.{refl, Record, CONTEXT_LIMIT}
use Rattle.mg_rooms.proofs.OrderLemmas.{in_order-empty}
use Rattle.mg_rooms.proofs.TableLemmas.{IsTable-empty}
use Rattle.mg_rooms.proofs.tables.Tables.new.Goals as goal

pub invariant_of-result : goal.invariant_of-result
invariant_of-result c = record {
  limits = c.requires.valid;
  slots = rw (c.in_ok-slots.ensures.value, ← c.from.ensures)
      (IsTable-empty (λ r. r.number) (λ r. r.slot) c.from-2.result c.from.result);
  rooms = rw c.in_ok-rooms.ensures.value (IsTable-empty (λ x. x.number) (λ x. x.room) c.from-3.result CONTEXT_LIMIT);
}

pub returns : goal.returns
returns c = record {
  value =
      rw (
        c.in_ok-slots.ensures.value,
        c.in_ok-rooms.ensures.value,
        in_order-empty (λ (r : Record). r.number) c.from.result,
        c.from-2.ensures,
        c.from-3.ensures,
      ) refl;
}
