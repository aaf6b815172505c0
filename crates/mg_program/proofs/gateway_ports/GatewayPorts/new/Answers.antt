use Rattle.mg_program.proofs.DecisionLemmas.{decided_none}
use Rattle.mg_program.proofs.gateway_ports.GatewayPorts.new.Goals as goal

pub invariant_of-result : goal.invariant_of-result
invariant_of-result g c = record { decided = decided_none g.K.LogKey.calls (g.H.Tells.calls c.args.host) c.requires.begins }
