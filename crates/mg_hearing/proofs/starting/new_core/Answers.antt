use Rattle.std.proofs.Common.{◌<◌, ◌^◌, arith}
use Rattle.mg_hearing.proofs.starting.new_core.Goals as goal

pub returns : goal.returns
returns c =
    let small : c.args.config.first_termination < 2 ^ 32 = omega arith in
    record {
      started = c.in_ok-core.ensures.started.2;
      base = c.bases_stay_bases.ensures.starts c.args.config (c.in_ok-core.ensures.sound, small);
    }
