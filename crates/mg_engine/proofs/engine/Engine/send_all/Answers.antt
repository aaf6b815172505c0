use Rattle.mg_engine.proofs.Common.{ℕ, sym, ap, subst, ◌∙◌, sum_by, view, EngineState, StandsFor, RisesAtMost, sending_work}
use Rattle.mg_engine.proofs.CostLemmas.{all_work_is}
use Rattle.mg_engine.proofs.SentLemmas.{packets_are}
use Rattle.mg_engine.proofs.TickLemmas.{mixed_stands}
use Rattle.mg_engine.proofs.engine.Engine.send_all.Goals as goal

pub returns-clause-sent : goal.returns-clause-sent
returns-clause-sent c w old h =
    let stands = rw (← c.self.view_is) at h in
    c.fill.ensures.value ∙
    sym (packets_are (view c.self.inside) w c.self.invariant.sound c.self.invariant.members stands old)

pub returns-clause-after : goal.returns-clause-after
returns-clause-after c w h =
    let stands = rw (← c.self.view_is) at h in
    subst (λ (x : EngineState). StandsFor x w) (sym c.fill.ensures.same)
    (mixed_stands (view c.self.inside) w c.fill.new.engine.sums.work c.fill.new.engine.shares stands)

pub returns-clause-work : goal.returns-clause-work
returns-clause-work c w h =
    let k = view c.self.inside in
    let most = all_work_is k w c.self.invariant.sound c.self.invariant.members (rw (← c.self.view_is) at h) in
    let old = ap (λ (x : EngineState). x.sums.work) c.self.view_is in
    subst (λ (n : ℕ). RisesAtMost (sum_by (sending_work w) w.rooms.terminations) n c.fill.new.engine.sums.work) old
    (subst (λ (m : ℕ). RisesAtMost m k.sums.work c.fill.new.engine.sums.work) (sym most) c.fill.ensures.work)
