use Rattle.mg_heard.proofs.TimingLemmas.{moment_ticks}
use Rattle.mg_heard.proofs.clock.Clock.after.Goals as goal

pub returns : goal.returns
returns c = record {
  value = λ older h. moment_ticks older c.args.count c.in-Some.tick c.next_tick.result c.pass_ticks.new.self
      c.args.self.now c.in-Some.ensures.1 c.next_tick.ensures.value c.pass_ticks.ensures.value h;
}
