use Rattle.mg_rooms.proofs.Common.{sym}
use Rattle.mg_rooms.proofs.StateLemmas.{is_in_a_context}
use Rattle.mg_rooms.proofs.rooms.Rooms.member.Goals as goal

pub member_of-requires : goal.member_of-requires
member_of-requires c = record {
  there = is_in_a_context c.self.inside.tables c.args.number c.in_ok-record.record
      c.self.invariant (sym c.in_ok-record.ensures.value);
}
