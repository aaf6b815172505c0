use Rattle.std.proofs.Common.{take}
use Rattle.mg_program.specs.aids.Binding.{other_binds}
use Rattle.mg_program.proofs.PortLemmas.{no_session_then, others_quiet}
use Rattle.mg_program.proofs.binding.bind_others.Goals as goal

pub returns-in-Err-clause-bound : goal.returns-in-Err-clause-bound
returns-in-Err-clause-bound g c =
    let before = take c.loop-address.address-index c.args.addresses.now in
    no_session_then (g.H.Tells.calls c.args.host.now) (g.H.Tells.calls c.loop-address.host)
    (g.H.Tells.calls c.bind_control.new.host) (other_binds c.args.port before) c.loop-address.invariant
    (others_quiet c.args.port before) c.in-Err.ensures.bound
