use Rattle.std.proofs.Common.{◌≡◌, take}
use Rattle.mg_commands.proofs.named_member.named_members.Given as goal

abbrev pub invariant-loop-member : goal.invariant-loop-member
invariant-loop-member l = l.named.items ≡ take l.member-index l.members
