use Rattle.std.proofs.Common.{◌≡◌, drop}
use Rattle.mg_heard.specs.aids.Watching.{forbidden_in}
use Rattle.mg_heard.specs.aids.Opening.{flows_of}
use Rattle.mg_heard.proofs.watch.forbidden_among.Given as goal

abbrev pub invariant-loop-interval : goal.invariant-loop-interval
invariant-loop-interval l =
    forbidden_in l.rules (flows_of l.intervals) ≡ forbidden_in l.rules (flows_of (drop l.interval-index l.intervals))
