use Rattle.mg_core.specs.Interleaving.{PortOrderIsIrrelevant}
use Rattle.mg_core.proofs.InterleavingLemmas.{one_run}
use Rattle.mg_core.proofs.theorems.port_order_is_irrelevant.Goals as goal

pub returns : goal.returns
returns c =
    let theorem : PortOrderIsIrrelevant = λ base a b s t v w is same run runs.
    one_run c.outcomes_are_unique.ensures.event c.port_order_is_irrelevant.ensures.theorem
    c.requests_are_consistent.ensures.theorem c.worlds_are_consistent.ensures.media a b base v w s t is.rooms same run runs in
    record {
      events = theorem;
      scripts = λ base first second one other counts more old new was now is a b same. theorem base
          a.ran.events b.ran.events a.ran.sent b.ran.sent a.last b.last is same a.ran.run b.ran.run;
    }
