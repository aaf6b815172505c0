use Rattle.mg_rooms.proofs.Common.{nat_lt, sym}
use Rattle.mg_rooms.proofs.PutLemmas.{count-in_order}
use Rattle.mg_rooms.proofs.tables.Tables.rank.Goals as goal

pub returns : goal.returns
returns c = record {
  value = rw (← c.self.view_is, c.count_below.ensures.value, c.deref.ensures.value)
      (sym (count-in_order (λ r. r.number) (λ r. nat_lt r.number c.args.number) c.self.inside.slots.items));
}
