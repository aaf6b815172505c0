use Rattle.std.proofs.Common.{ℕ, map, refl, sym, ap, subst}
use Rattle.mg_engine.specs.aids.Stands.{EngineState}
use Rattle.mg_engine.specs.Work.{RisesAtMost, tick_work}
use Rattle.mg_engine.specs.Tick.{after_tick}
use Rattle.mg_core.specs.aids.CoreView.{CoreView}
use Rattle.mg_core.specs.declared.event.Event.TheVariants.{Tick}
use Rattle.mg_core.specs.Step.{Packet}
use Rattle.mg_core.specs.World.{world_after_tick, with_tick}
use Rattle.mg_core.specs.aids.Stands.{StandsFor}
use Rattle.mg_core.proofs.HeadlineLemmas.{continues}
use Rattle.mg_core.proofs.machine.Core.tick.Goals as goal

pub returns-clause-next : goal.returns-clause-next
returns-clause-next c w h =
    let held = subst (λ (x : CoreView). StandsFor x.state w) (sym c.self.view_is) h in
    subst (λ n. StandsFor c.count_tick.new.self
    (record w { gateway = after_tick w.gateway; tally = with_tick n w.tally }))
    (c.tick-concealed.ensures.concealed w.gateway held.gateway)
    (c.count_tick.ensures.counted (record w { gateway = after_tick w.gateway })
    (record {
      gateway = c.tick-concealed.ensures.after w.gateway held.gateway;
      replies = held.replies;
      counts = held.counts;
    }))

pub returns-clause-headline : goal.returns-clause-headline
returns-clause-headline c = continues c.args.self.now.state c.count_tick.new.self Tick
    (map Packet c.tick-concealed.new.outbox.items) (λ w h.
    let held = subst (λ (x : CoreView). StandsFor x.state w) (sym c.self.view_is) h in (
      world_after_tick w,
      (ap (map Packet) (c.tick-concealed.ensures.sent w.gateway held.gateway), refl),
      returns-clause-next c w h,
    ))

pub returns-clause-work : goal.returns-clause-work
returns-clause-work c w h =
    let held = subst (λ (x : CoreView). StandsFor x.state w) (sym c.self.view_is) h in
    let rises = c.tick-concealed.ensures.work w.gateway held.gateway in
    subst (λ (n : ℕ). RisesAtMost (tick_work w.gateway) n c.count_tick.new.self.engine.sums.work)
    (ap (λ (x : CoreView). x.state.engine.sums.work) c.self.view_is)
    (subst (λ (e : EngineState). RisesAtMost (tick_work w.gateway) c.self.inside.state.engine.sums.work e.sums.work)
    (sym c.count_tick.ensures.engine) rises)
