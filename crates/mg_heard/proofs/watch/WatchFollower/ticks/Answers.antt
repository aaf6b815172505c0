use Rattle.std.proofs.Common.{◌+◌, ap, is_some, sym, ◌∙◌}
use Rattle.std.proofs.lemmas.Bool.{true≢false}
use Rattle.mg_heard.proofs.WatchLemmas.{compared, watches_no_tick, watches_some_ticks}
use Rattle.mg_heard.proofs.watch.WatchFollower.ticks.Goals as goal

pub returns-then-count-eq0 : goal.returns-then-count-eq0
returns-then-count-eq0 c =
    let old = c.args.self.now in
    record {
      value = λ start base notes (rules, h) run. (
        rules,
        watches_no_tick start.rules.now base notes old.clock.ticks c.args.count old.is_changed old.violation
            c.if-count-eq0.true h,
      );
      stops = tt;
    }

pub returns-then-is_some : goal.returns-then-is_some
returns-then-is_some c =
    let one = c.outcomes_are_unique.ensures.event in
    let old = c.args.self.now in
    let new = c.compare.new.self in
    record {
      value = λ start base notes (rules, h) (sent, w, (run, stands)). (
        c.compare.ensures.rules ∙ rules,
        watches_some_ticks one c.only_control_changes_flows.ensures.flows
            start.rules.now base notes old.clock.ticks new.clock.ticks c.args.count old.is_changed new.is_changed
            old.violation new.violation sent w c.if-count-eq0.false
            (λ none. absurd (true≢false (sym c.if-is_some.true ∙ c.is_some.ensures ∙ ap is_some none))) run h
            (compared one start.rules.now base notes old.clock.ticks old.is_changed old.violation new.violation sent w
            old.rules.now rules run h (c.compare.ensures.value w stands)),
      );
      stops = tt;
    }

pub returns-in-Ok : goal.returns-in-Ok
returns-in-Ok c =
    let one = c.outcomes_are_unique.ensures.event in
    let old = c.args.self.now in
    let new = c.compare.new.self in
    record {
      value = λ start base notes (rules, h) (sent, w, (run, stands)). (
        c.compare.ensures.rules ∙ rules,
        watches_some_ticks one c.only_control_changes_flows.ensures.flows
            start.rules.now base notes old.clock.ticks c.pass_ticks.new.self.ticks c.args.count old.is_changed
            new.is_changed old.violation new.violation sent w c.if-count-eq0.false
            (λ none. c.in-Ok.ensures.ticks ∙ ap (λ clock. clock.ticks + c.args.count) c.compare.ensures.clock) run h
            (compared one start.rules.now base notes old.clock.ticks old.is_changed old.violation new.violation sent w
            old.rules.now rules run h (c.compare.ensures.value w stands)),
      );
      stops = tt;
    }
