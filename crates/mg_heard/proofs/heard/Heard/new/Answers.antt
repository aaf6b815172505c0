use Rattle.std.proofs.Common.{true, refl}
use Rattle.mg_heard.proofs.KeptTickLemmas.{heard_start}
use Rattle.mg_heard.proofs.heard.Heard.new.Goals as goal

pub returns-clause-start : goal.returns-clause-start
returns-clause-start g c base told = heard_start base c.new.result true c.in_ok-new.field-0
    (g.S.Sink.told c.args.sink c.args.sink) c.new.ensures.start c.new.ensures.ticks refl c.in_ok-new.ensures.value told
