use Rattle.std.proofs.Common.{arith}
use Rattle.mg_heard.proofs.rows.place_of.Goals as goal

pub returns : goal.returns
returns c = record {
  some = tt;
  none = λ k d below e. c.loop-place.invariant k d (omega (arith, below, c.loop-place-test.false)) e;
}
