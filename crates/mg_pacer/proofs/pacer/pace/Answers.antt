use Rattle.std.proofs.Common.{Bool, Ok, subst}
use Rattle.std.proofs.lemmas.Result.{err_from_is_err_and}
use Rattle.mg_pacer.specs.aids.Steps.{Turns}
use Rattle.mg_pacer.proofs.RunLemmas.{so_far_start, so_far_more, run_done, run_cut}
use Rattle.mg_pacer.proofs.pacer.pace.Goals as goal

pub loop-turn-init : goal.loop-turn-init
loop-turn-init g c = rw c.new-schedule.ensures.value (so_far_start c.args.options _ _ _ _ c.requires.some)

pub returns-in_err-turn : goal.returns-in_err-turn
returns-in_err-turn g c =
    let p = err_from_is_err_and c.from_residual-in_err-turn.result c.from_residual-in_err-turn.ensures.1 in
    rw (p.1, p.2) (record {
      value = run_cut c.args.options c.loop-turn._turn c.in_ok-now.now _ (g.K.Watch.readings c.loop-turn.watch) _ _
          (g.K.Watch.waits c.loop-turn.watch) _ _ (g.W.Write.contents c.loop-turn.output) _ _ c.loop-turn.errors _
          c.loop-turn.schedule c.turn.new.schedule c.loop-turn.invariant c.in_ok-now.ensures.reports
          c.in_ok-now.ensures.waits c.in_err-turn.ensures.advances c.in_err-turn.ensures.quiet
          (g.K.Watch.Fails c.now.new.self)
          c.in_err-turn.field-0.0 c.in_err-turn.ensures.value;
    })

pub returns-then-branch : goal.returns-then-branch
returns-then-branch g c =
    record {
      value = run_done c.args.options c.loop-turn._turn c.in_ok-now.now _ (g.K.Watch.readings c.loop-turn.watch) _ _
          (g.K.Watch.waits c.loop-turn.watch) _ _ (g.W.Write.contents c.loop-turn.output) _ _ c.loop-turn.errors _
          c.loop-turn.schedule c.turn.new.schedule c.loop-turn.invariant c.in_ok-now.ensures.reports
          c.in_ok-now.ensures.waits c.in_ok-turn.ensures.advances c.in_ok-turn.ensures.quiet
          (g.K.Watch.Fails c.now.new.self) tt
          (subst (λ (b : Bool). Turns c.args.options.ticks c.loop-turn.schedule c.turn.new.schedule
          (g.W.Write.contents c.loop-turn.output) (g.W.Write.contents c.turn.new.output) (Ok b)) c.if-branch.true
          c.in_ok-turn.ensures.value);
    }

pub loop-turn-preserved : goal.loop-turn-preserved
loop-turn-preserved g c =
    so_far_more c.args.options c.loop-turn._turn c.in_ok-now.now _ (g.K.Watch.readings c.loop-turn.watch)
    (g.K.Watch.readings c.now.new.self) _ (g.K.Watch.waits c.loop-turn.watch) (g.K.Watch.waits c.now.new.self)
    _ (g.W.Write.contents c.loop-turn.output) _ _ c.loop-turn.errors _ c.loop-turn.schedule c.turn.new.schedule
    c.loop-turn.invariant c.in_ok-now.ensures.reports c.in_ok-now.ensures.waits c.in_ok-turn.ensures.advances
    c.in_ok-turn.ensures.quiet
    _ _ _
    (subst (λ (b : Bool). Turns c.args.options.ticks c.loop-turn.schedule c.turn.new.schedule
    (g.W.Write.contents c.loop-turn.output) (g.W.Write.contents c.turn.new.output) (Ok b)) c.if-branch.false
    c.in_ok-turn.ensures.value)
    c.wait.ensures.value c.wait-in-loop-turn.ensures.readings c.wait-in-loop-turn.ensures.waits
