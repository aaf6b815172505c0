use Rattle.std.proofs.Common.{false, [], ◌∷◌}
use Rattle.mg_ports.specs.declared.call.Call.TheVariants.{Receive}
use Rattle.mg_ports.specs.Calls.{receipt_of}
use Rattle.mg_program.specs.Decisions.{knows}
use Rattle.mg_program.proofs.DecisionLemmas.{decided_more, does_logged}
use Rattle.mg_program.proofs.gateway_ports.GatewayPortsPorts.receive.Goals as goal

pub invariant_of-self : goal.invariant_of-self
invariant_of-self g c = record {
  decided = decided_more g.K.LogKey.calls
      (g.H.Tells.calls c.args.self.now.host) (g.H.Tells.calls c.receive_reported-answer.new.host) (Receive c.args.socket (receipt_of c.receive_reported-answer.result c.receive_reported-answer.new.buffer) ∷ [])
      (knows c.args.self.now.timing c.args.self.now.ready false) (knows c.args.self.now.timing c.receive_reported-answer.new.ready false)
      c.args.self.now.decided
      (c.receive_reported-answer.ensures.done c.args.self.now.timing);
}

pub returns-clause-logged : goal.returns-clause-logged
returns-clause-logged g c = does_logged
    (g.H.Tells.calls c.args.self.now.host) (g.H.Tells.calls c.receive_reported-answer.new.host) (Receive c.args.socket (receipt_of c.receive_reported-answer.result c.receive_reported-answer.new.buffer) ∷ [])
    (knows c.args.self.now.timing c.args.self.now.ready false) (knows c.args.self.now.timing c.receive_reported-answer.new.ready false)
    (c.receive_reported-answer.ensures.done c.args.self.now.timing)
