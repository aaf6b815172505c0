use Rattle.std.proofs.Common.{refl}
use Rattle.mg_heard.proofs.TimingLemmas.{clock_ticks}
use Rattle.mg_heard.proofs.clock.Clock.pass_ticks.Goals as goal

pub returns-clause-value : goal.returns-clause-value
returns-clause-value c older h =
    clock_ticks older c.args.count c.args.self.now _ c.in-Some.ensures.1 c.pass_ticks.ensures.value refl h
