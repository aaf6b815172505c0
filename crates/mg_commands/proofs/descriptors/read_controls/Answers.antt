use Rattle.std.proofs.Common.{refl}
use Rattle.mg_commands.proofs.FindingLemmas.{walk_hit, walk_pass, walk_ends}
use Rattle.mg_commands.proofs.descriptors.read_controls.Goals as goal

pub returns-in-Some : goal.returns-in-Some
returns-in-Some c = record {
  reads = walk_hit _ c.loop-i.invariant c.loop-i-test.true refl c.split_at.ensures.front
      (rw c.appeared_in_control-appeared.ensures.value at c.add_control.ensures.reads) c.in-Some.is;
}

pub loop-i-preserved : goal.loop-i-preserved
loop-i-preserved c = walk_pass _ c.loop-i.invariant c.loop-i-test.true refl c.split_at.ensures.front
    (rw c.appeared_in_control-appeared.ensures.value at c.add_control.ensures.reads) c.in_default.is

pub returns : goal.returns
returns c = record { reads = walk_ends c.loop-i.invariant c.loop-i-test.false }
