use Rattle.std.proofs.Common.{◌+◌, reverse, sym, ap, subst, ◌∙◌}
use Rattle.mg_heard.specs.Times.{tick_count}
use Rattle.mg_heard.specs.aids.Timing.{IsClock, Timed}
use Rattle.mg_heard.specs.declared.clock.Clock.{Clock}
use Rattle.mg_heard.proofs.IntervalLemmas.{equal_moments_tell_nothing}
use Rattle.mg_heard.proofs.KeepingLemmas.{now_is}
use Rattle.mg_heard.proofs.KeptTickLemmas.{heard_no_tick, heard_ticks}
use Rattle.mg_heard.proofs.heard.HeardFollower.ticks.Goals as goal

pub returns-then-count-eq0 : goal.returns-then-count-eq0
returns-then-count-eq0 g c =
    let old = c.args.self.now in
    record {
      value = λ start base notes h run.
          heard_no_tick base notes old.clock c.args.count old.is_changed old.open
          (g.S.Sink.told start.sink old.sink) c.if-count-eq0.true h;
      stops = tt;
    }

pub returns-in-Ok : goal.returns-in-Ok
returns-in-Ok g c =
    let one = c.outcomes_are_unique.ensures.event in
    let old = c.args.self.now in
    let mid = c.update.new.self in
    record {
      value = λ start base notes h (sent, w, (run, stands)).
          let older = reverse notes in
          let Told = g.S.Sink.told start.sink old.sink in
          let now = now_is one base notes old.clock.ticks old.is_changed old.open (Timed older (tick_count older) Told)
          sent w run h.opens in
          let is : IsClock older mid.clock = subst (λ (k : Clock). IsClock older k) (sym c.update.ensures.clock) h.clock_is in
          heard_ticks one c.only_control_changes_flows.ensures.flows equal_moments_tell_nothing base notes
          old.clock c.pass_ticks.new.self c.args.count old.is_changed mid.is_changed old.open mid.open Told
          (g.S.Sink.told start.sink mid.sink) sent w c.if-count-eq0.false
          (c.in-Ok.ensures.ticks ∙ ap (λ clock. clock.ticks + c.args.count) c.update.ensures.clock)
          (c.in-Ok.ensures.value older is) run h
          (c.in_ok-update.ensures.value w h.opens.past older start.sink stands h.clock_is h.opens.count
          (λ e. sym now ∙ h.opens.same e) (record { begun = h.begun; tells = h.opens.tells }));
      stops = tt;
    }
