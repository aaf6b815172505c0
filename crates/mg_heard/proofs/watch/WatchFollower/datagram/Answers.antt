use Rattle.std.proofs.Common.{refl, true}
use Rattle.std.proofs.lemmas.Bool.{true≢false}
use Rattle.mg_heard.proofs.KeepingLemmas.{not_control}
use Rattle.mg_heard.proofs.WatchLemmas.{watches_datagram}
use Rattle.mg_heard.proofs.watch.WatchFollower.datagram.Goals as goal

pub returns-in-Control-clause-value : goal.returns-in-Control-clause-value
returns-in-Control-clause-value c start base notes (rules, h) run =
    let old = c.args.self.now in (
      rules,
      watches_datagram c.outcomes_are_unique.ensures.event c.only_control_changes_flows.ensures.flows
          start.rules.now base notes c.args.event.now old.clock.ticks old.clock.ticks old.is_changed true
          old.violation c.args._core.now.state refl c.requires.datagram (λ e. absurd (true≢false e)) run h,
    )

pub returns-in_default : goal.returns-in_default
returns-in_default c =
    let old = c.args.self.now in
    record {
      value = λ start base notes (rules, h) run. (
        rules,
        watches_datagram c.outcomes_are_unique.ensures.event c.only_control_changes_flows.ensures.flows
            start.rules.now base notes c.args.event.now old.clock.ticks old.clock.ticks old.is_changed
            old.is_changed old.violation c.args._core.now.state refl c.requires.datagram
            (λ e. (not_control c.args.event.now c.in_default.not-Control, e)) run h,
      );
      stops = tt;
    }
