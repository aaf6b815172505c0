use Rattle.std.proofs.Common.{◌<◌, ◌^◌, arith}
use Rattle.mg_checkpoint.proofs.RebuildLemmas.{counts_say}
use Rattle.mg_checkpoint.proofs.rebuilding.rebuild.Goals as goal

pub returns : goal.returns
returns c =
    let small : c.args.config.first_termination < 2 ^ 32 = omega arith in
    record {
      rebuilt = record {
        start = (c.in_ok-engine.ensures.sound, small);
        config = c.in_ok-engine.ensures.config;
        quiet = c.in_ok-engine.ensures.quiet;
        counts = counts_say c.counts_of-counts.result c.in_ok-draft.draft.control c.in_ok-draft.draft.ticks
            c.counts_of-counts.ensures.value;
      };
    }
