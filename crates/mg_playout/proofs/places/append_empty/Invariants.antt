use Rattle.std.proofs.Common.{◌≡◌, ◌++◌}
use Rattle.circular_buffer.specs.Buffer.{buffer}
use Rattle.mg_playout.specs.Places.{empty_places}
use Rattle.mg_playout.proofs.places.append_empty.Given as goal

abbrev pub invariant-loop : goal.invariant-loop
invariant-loop l = l.ring ≡ buffer (l.fn.ring.items ++ empty_places l.counter) l.fn.ring.capacity
