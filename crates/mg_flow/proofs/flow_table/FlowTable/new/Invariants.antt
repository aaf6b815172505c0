use Rattle.std.proofs.Common.{◌≡◌, length, All}
use Rattle.mg_flow.specs.aids.RoomFlows.{IsVacant}
use Rattle.mg_flow.proofs.flow_table.FlowTable.new.Given as goal

-- There are as many rooms as the counter says, and all of them are empty.
abbrev pub invariant-loop : goal.invariant-loop
invariant-loop l = record {
  many : length l.rooms.items ≡ l.counter;
  vacant : All IsVacant l.rooms.items;
}
