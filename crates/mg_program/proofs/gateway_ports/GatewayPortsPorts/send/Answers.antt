use Rattle.std.proofs.Common.{false, [], ◌∷◌}
use Rattle.mg_ports.specs.declared.call.Call.TheVariants.{Send}
use Rattle.mg_program.specs.Decisions.{knows}
use Rattle.mg_program.proofs.DecisionLemmas.{decided_more, does_logged}
use Rattle.mg_program.proofs.gateway_ports.GatewayPortsPorts.send.Goals as goal

pub invariant_of-self : goal.invariant_of-self
invariant_of-self g c = record {
  decided = decided_more g.K.LogKey.calls
      (g.H.Tells.calls c.args.self.now.host) (g.H.Tells.calls c.send_in_time-sent.new.host) (Send c.args.socket c.args.to c.args.bytes.now ∷ [])
      (knows c.args.self.now.timing c.args.self.now.ready false) (knows c.args.self.now.timing c.args.self.now.ready false)
      c.args.self.now.decided
      (c.send_in_time-sent.ensures.done c.args.self.now.ready);
}

pub returns-in-Ok-clause-logged : goal.returns-in-Ok-clause-logged
returns-in-Ok-clause-logged g c = does_logged
    (g.H.Tells.calls c.args.self.now.host) (g.H.Tells.calls c.send_in_time-sent.new.host) (Send c.args.socket c.args.to c.args.bytes.now ∷ [])
    (knows c.args.self.now.timing c.args.self.now.ready false) (knows c.args.self.now.timing c.args.self.now.ready false)
    (c.send_in_time-sent.ensures.done c.args.self.now.ready)

pub returns-in-Err-clause-logged : goal.returns-in-Err-clause-logged
returns-in-Err-clause-logged g c = does_logged
    (g.H.Tells.calls c.args.self.now.host) (g.H.Tells.calls c.send_in_time-sent.new.host) (Send c.args.socket c.args.to c.args.bytes.now ∷ [])
    (knows c.args.self.now.timing c.args.self.now.ready false) (knows c.args.self.now.timing c.args.self.now.ready false)
    (c.send_in_time-sent.ensures.done c.args.self.now.ready)
