use Rattle.std.proofs.Common.{arith}
use Rattle.mg_commands.proofs.StreamSteps.{level_alone}
use Rattle.mg_commands.proofs.repeats.lookback.Goals as goal

pub returns-then-stream_of-greatest : goal.returns-then-stream_of-greatest
returns-then-stream_of-greatest c = record {
  level = λ source. level_alone source c.args.before.now c.args.part.now
      (omega (arith, c.requires.greatest, c.stream_of.ensures.value, c.if-stream_of-greatest.true));
}
