use Rattle.std.proofs.Common.{None, true, refl}
use Rattle.mg_heard.proofs.WatchLemmas.{watch_starts}
use Rattle.mg_heard.proofs.watch.Watch.new.Goals as goal

pub returns-clause-start : goal.returns-clause-start
returns-clause-start c base =
    watch_starts c.args.rules.now base c.new.result.ticks true None c.new.ensures.ticks refl refl
