use Rattle.std.proofs.Common.{sym, subst}
use Rattle.mg_engine.specs.aids.Ticks.{after_ticks, concealed_in_ticks}
use Rattle.mg_core.specs.aids.CoreView.{CoreView}
use Rattle.mg_core.specs.World.{World}
use Rattle.mg_core.specs.aids.Stands.{StandsFor}
use Rattle.mg_core.proofs.SkipLemmas.{extends_by_ticks, ticks_counted}
use Rattle.mg_core.proofs.machine.Core.skip.Goals as goal

pub returns-clause-next : goal.returns-clause-next
returns-clause-next c w h =
    let held = subst (λ (x : CoreView). StandsFor x.state w) (sym c.self.view_is) h in
    subst (λ (v : World). StandsFor c.count_ticks.new.self v) (sym (ticks_counted c.args.count w))
    (c.count_ticks.ensures.counted (record w { gateway = after_ticks c.args.count w.gateway })
    (concealed_in_ticks c.args.count w.gateway)
    (record {
      gateway = c.skip-concealed.ensures.after w.gateway held.gateway;
      replies = held.replies;
      counts = held.counts;
    })
    (c.skip-concealed.ensures.concealed w.gateway held.gateway))

pub returns-clause-headline : goal.returns-clause-headline
returns-clause-headline c = extends_by_ticks c.args.self.now.state c.count_ticks.new.self c.args.count
    (returns-clause-next c)
