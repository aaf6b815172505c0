use Rattle.std.proofs.Common.{false}
use Rattle.mg_ports.specs.declared.call.Call.TheVariants.{Send}
use Rattle.mg_host.specs.declared.host_call.HostCall.TheVariants.{NotSent, OnPorts}
use Rattle.mg_program.specs.Decisions.{knows}
use Rattle.mg_program.proofs.DecisionLemmas.{does_one}
use Rattle.mg_program.proofs.sending.send_in_time.Goals as goal

pub returns-in-Some : goal.returns-in-Some
returns-in-Some g c = record {
  done = λ ready. does_one (g.H.Tells.calls c.args.host.now) (g.H.Tells.calls c.log_unsent.new.self)
      (NotSent c.args.socket c.args.to c.args.bytes.now c.in-Some.cause) (knows c.args.timing ready false)
      c.log_unsent.ensures.logged (c.in-Some.ensures.value ready c.args.bytes.now);
}

pub returns-in-Ok : goal.returns-in-Ok
returns-in-Ok g c = record {
  done = λ ready. does_one (g.H.Tells.calls c.args.host.now) (g.H.Tells.calls c.send.new.self)
      (OnPorts (Send c.args.socket c.args.to c.args.bytes.now)) (knows c.args.timing ready false)
      c.send.ensures.logged (c.in_default.ensures.value ready c.args.bytes.now);
}

pub returns-in-Err : goal.returns-in-Err
returns-in-Err g c = record {
  done = λ ready. does_one (g.H.Tells.calls c.args.host.now) (g.H.Tells.calls c.send.new.self)
      (OnPorts (Send c.args.socket c.args.to c.args.bytes.now)) (knows c.args.timing ready false)
      c.send.ensures.logged (c.in_default.ensures.value ready c.args.bytes.now);
}
