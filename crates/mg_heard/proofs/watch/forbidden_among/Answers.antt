use Rattle.std.proofs.Common.{sym, ◌∙◌}
use Rattle.mg_heard.proofs.ContinueLemmas.{unused}
use Rattle.mg_heard.proofs.WatchLemmas.{none_left, not_this, this_one}
use Rattle.mg_heard.proofs.watch.forbidden_among.Goals as goal

pub loop-interval-preserved : goal.loop-interval-preserved
loop-interval-preserved c =
    c.loop-interval.invariant ∙ not_this c.args.rules.now c.args.intervals.now c.loop-interval.interval-index unused
    c.loop-interval-test.true (sym c.is_forbidden.ensures.value ∙ c.if-is_forbidden.false)

pub returns-then-is_forbidden : goal.returns-then-is_forbidden
returns-then-is_forbidden c = record {
  value = sym (c.loop-interval.invariant ∙ this_one c.args.rules.now c.args.intervals.now c.loop-interval.interval-index
      unused c.loop-interval-test.true (sym c.is_forbidden.ensures.value ∙ c.if-is_forbidden.true));
}

pub returns : goal.returns
returns c = record {
  value = sym (c.loop-interval.invariant
      ∙ none_left c.args.rules.now c.args.intervals.now c.loop-interval.interval-index c.loop-interval-test.false);
}
