use Rattle.mg_engine.proofs.Common.{◌≡◌, map, take, All, IsOnSeat}
use Rattle.mg_engine.proofs.seated_member.seated_members.Given as goal

abbrev pub invariant-loop-number : goal.invariant-loop-number
invariant-loop-number l = record {
  numbers : map (λ m. m.number) l.seated.items ≡ take l.number-index l.numbers;
  places : All (IsOnSeat l.rooms) l.seated.items;
}
