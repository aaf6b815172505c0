use Rattle.std.proofs.Common.{None, Some, ap, ◌∙◌}
use Rattle.std.specs.Option.{option_map}
use Rattle.mg_heard.specs.Never.{without_date}
use Rattle.mg_heard.specs.OpenFlows.{open_flows}
use Rattle.mg_heard.proofs.WatchLemmas.{forbidden_stored}
use Rattle.mg_heard.proofs.watch.violation_in.Goals as goal

pub returns-in_err-flow : goal.returns-in_err-flow
returns-in_err-flow c = record {
  value = λ w stands. ap (option_map without_date) c.from_residual.ensures
      ∙ forbidden_stored c.args.rules.now c.args.at (open_flows w.gateway) c.fill.new.self c.as_slice.result.now None
      (c.fill.ensures.value w stands) c.as_slice.ensures.value c.in_err-flow.ensures.value;
}

pub returns : goal.returns
returns c = record {
  value = λ w stands. forbidden_stored c.args.rules.now c.args.at (open_flows w.gateway) c.fill.new.self
      c.as_slice.result.now (Some c.in_ok-flow.flow) (c.fill.ensures.value w stands) c.as_slice.ensures.value
      c.in_ok-flow.ensures.value;
}
