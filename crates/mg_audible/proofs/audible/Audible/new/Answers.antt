use Rattle.mg_audible.proofs.KeepLemmas.{timed_begins}
use Rattle.mg_audible.proofs.audible.Audible.new.Goals as goal

pub returns-clause-start : goal.returns-clause-start
returns-clause-start g c base both told =
    let pair = c.args.pair in
    timed_begins base pair.talker pair.whole.state pair.without.state c.new-3.result c.in-Ok.open
    (g.S.Sink.told c.args.sink c.args.sink) both c.new-3.ensures.start c.new-3.ensures.ticks c.in-Ok.ensures.value told
