use Rattle.std.proofs.Common.{false, [], ◌∷◌}
use Rattle.mg_ports.specs.declared.call.Call.TheVariants.{Append}
use Rattle.mg_host.specs.declared.host_call.HostCall.TheVariants.{OnPorts}
use Rattle.mg_program.specs.Decisions.{knows}
use Rattle.mg_program.proofs.DecisionLemmas.{decided_more, does_logged, does_one}
use Rattle.mg_program.proofs.gateway_ports.GatewayPortsPorts.append.Goals as goal

pub invariant_of-self : goal.invariant_of-self
invariant_of-self g c = record {
  decided = decided_more g.K.LogKey.calls
      (g.H.Tells.calls c.args.self.now.host) (g.H.Tells.calls c.log_append.new.self) (Append c.args.lines.now c.args.durability c.append-outcome.result ∷ [])
      (knows c.args.self.now.timing c.args.self.now.ready false) (knows c.args.self.now.timing c.args.self.now.ready false)
      c.args.self.now.decided
      (does_one (g.H.Tells.calls c.args.self.now.host) (g.H.Tells.calls c.log_append.new.self) (OnPorts (Append c.args.lines.now c.args.durability c.append-outcome.result))
      (knows c.args.self.now.timing c.args.self.now.ready false) c.log_append.ensures.logged tt);
}

pub returns-clause-logged : goal.returns-clause-logged
returns-clause-logged g c = does_logged
    (g.H.Tells.calls c.args.self.now.host) (g.H.Tells.calls c.log_append.new.self) (Append c.args.lines.now c.args.durability c.append-outcome.result ∷ [])
    (knows c.args.self.now.timing c.args.self.now.ready false) (knows c.args.self.now.timing c.args.self.now.ready false)
    (does_one (g.H.Tells.calls c.args.self.now.host) (g.H.Tells.calls c.log_append.new.self) (OnPorts (Append c.args.lines.now c.args.durability c.append-outcome.result))
    (knows c.args.self.now.timing c.args.self.now.ready false) c.log_append.ensures.logged tt)
