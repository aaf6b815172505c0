use Rattle.mg_rooms.proofs.MemberLemmas.{without_none}
use Rattle.mg_rooms.proofs.members.Members.leave.Goals as goal

pub returns-in_default : goal.returns-in_default
returns-in_default c = record {
  value =
      let found = rw c.as_slice.ensures.value at c.in_default.ensures.value in
      without_none c.args.number 0 c.args.self.now found;
}
