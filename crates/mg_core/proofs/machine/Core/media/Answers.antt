use Rattle.std.proofs.Common.{[], refl, sym, ap, subst, ◌∙◌}
use Rattle.mg_engine.specs.aids.Stands.{EngineState}
use Rattle.mg_core.specs.aids.CoreView.{CoreView}
use Rattle.mg_core.specs.declared.event.Event.TheVariants.{Media}
use Rattle.mg_core.specs.World.{with_taken}
use Rattle.mg_core.specs.aids.Stands.{StandsFor}
use Rattle.mg_core.proofs.HeadlineLemmas.{continues}
use Rattle.mg_core.proofs.machine.Core.media.Goals as goal

pub returns-clause-taken : goal.returns-clause-taken
returns-clause-taken c w h =
    let held = subst (λ (x : CoreView). StandsFor x.state w) (sym c.self.view_is) h in
    let (g, took, stands) = c.media-taken.ensures.taken w.gateway held.gateway in (
      record w { gateway = g; tally = with_taken c.media-taken.result w.tally },
      (g, took, refl),
      c.count_media.ensures.counted (record w { gateway = g })
          (record { gateway = stands; replies = held.replies; counts = held.counts }),
    )

pub returns-clause-headline : goal.returns-clause-headline
returns-clause-headline c = continues c.args.self.now.state c.count_media.new.self
    (Media c.args.port c.args.source c.args.bytes.now) [] (λ w h.
    let (next, took, stands) = returns-clause-taken c w h in
    (next, (c.media-taken.result, took, refl), stands))

pub returns-clause-work : goal.returns-clause-work
returns-clause-work c =
    ap (λ (e : EngineState). e.sums.work) c.count_media.ensures.engine ∙ c.media-taken.ensures.work ∙
    ap (λ (x : CoreView). x.state.engine.sums.work) c.self.view_is
