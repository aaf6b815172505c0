use Rattle.mg_commands.proofs.FindingLemmas.{walk_hit, walk_pass, walk_ends}
use Rattle.mg_commands.proofs.StreamSteps.{greatest_next}
use Rattle.mg_commands.proofs.descriptors.read_media.Goals as goal

pub returns-in-Some : goal.returns-in-Some
returns-in-Some c = record {
  reads = walk_hit _ c.loop-i.invariant.walked c.loop-i-test.true c.index-parts-i.is c.split_at.ensures.front
      (rw (c.lookback-before.ensures.level c.args.source.now) at c.read_media_part.ensures.reads) c.in-Some.is;
}

pub loop-i-preserved : goal.loop-i-preserved
loop-i-preserved c = record {
  walked = walk_pass _ c.loop-i.invariant.walked c.loop-i-test.true c.index-parts-i.is c.split_at.ensures.front
      (rw (c.lookback-before.ensures.level c.args.source.now) at c.read_media_part.ensures.reads) c.in_default.is;
  greatest = greatest_next c.args.parts.now c.loop-i.i c.index-parts-i.result _ c.loop-i.greatest c.stream_of.result _
      c.loop-i-test.true c.index-parts-i.is c.loop-i.invariant.greatest c.stream_of.ensures.value
      c.max-greatest.ensures;
}

pub returns : goal.returns
returns c = record { reads = walk_ends c.loop-i.invariant.walked c.loop-i-test.false }
