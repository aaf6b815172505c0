use Rattle.std.proofs.Common.{◌≡◌, drop}
use Rattle.mg_core.specs.Answer.{without_ranges}
use Rattle.mg_core.proofs.answering.acknowledge.Given as goal

abbrev pub invariant-loop-range : goal.invariant-loop-range
invariant-loop-range l = record {
  left : without_ranges l.sender (drop l.range-index l.ranges) l.kept ≡ without_ranges l.sender l.ranges l.initial.kept;
}
