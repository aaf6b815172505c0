use Rattle.mg_heard.specs.OpenFlows.{open_flows}
use Rattle.mg_heard.proofs.IntervalLemmas.{equal_moments_tell_nothing}
use Rattle.mg_heard.proofs.KeptTickLemmas.{timed_same}
use Rattle.mg_heard.proofs.heard.Heard.update.Goals as goal

pub returns-then-self-clause-value : goal.returns-then-self-clause-value
returns-then-self-clause-value g c w past older start stands is tick same h =
    c.tell_changes.ensures.value w past older start stands is tick h

pub returns-clause-value : goal.returns-clause-value
returns-clause-value g c w past older start stands is tick same h =
    let old = c.args.self.now in
    timed_same equal_moments_tell_nothing older past (open_flows w.gateway) old.open (g.S.Sink.told start old.sink)
    (same c.if-self.false) h
