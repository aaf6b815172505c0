use Rattle.mg_hearing.proofs.BeginningLemmas.{more_read}
use Rattle.mg_hearing.proofs.checkpoint.read_lines.Goals as goal

pub returns-then-not-branch : goal.returns-then-not-branch
returns-then-not-branch g c = record {
  value = more_read _ _ _ _ _ _ c.loop.invariant c.in_ok-read_byte.ensures.value;
}

pub returns-then-ends_checkpoint : goal.returns-then-ends_checkpoint
returns-then-ends_checkpoint g c = record {
  value = more_read _ _ _ _ _ _ c.loop.invariant c.in_ok-read_byte.ensures.value;
}

pub loop-preserved : goal.loop-preserved
loop-preserved g c = more_read _ _ _ _ _ _ c.loop.invariant c.in_ok-read_byte.ensures.value
