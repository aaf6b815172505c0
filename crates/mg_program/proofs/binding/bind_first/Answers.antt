use Rattle.mg_program.specs.aids.Binding.{first_binds}
use Rattle.mg_program.proofs.PortLemmas.{binds_more, first_quiet, no_session_then}
use Rattle.mg_program.proofs.binding.bind_first.Goals as goal

pub loop-slot-init : goal.loop-slot-init
loop-slot-init g c = rw c.unwrap_or-control_address.ensures at c.in_default.ensures.bound

pub loop-slot-preserved : goal.loop-slot-preserved
loop-slot-preserved g c =
    binds_more c.args.config.now c.args.bind_address c.loop-slot.slot c.slot_port-port.result
    (g.H.Tells.calls c.args.host.now) (g.H.Tells.calls c.loop-slot.host) (g.H.Tells.calls c.bind_socket-in-loop-slot.new.host)
    c.loop-slot.invariant (rw c.limits.ensures.value at c.slot_port-port.ensures.value)
    (rw c.unwrap_or-media_address.ensures at c.in_default-bind_socket.ensures.bound)

pub returns-in-Err-bind_socket-clause-bound : goal.returns-in-Err-bind_socket-clause-bound
returns-in-Err-bind_socket-clause-bound g c =
    no_session_then (g.H.Tells.calls c.args.host.now) (g.H.Tells.calls c.loop-slot.host)
    (g.H.Tells.calls c.bind_socket-in-loop-slot.new.host)
    (first_binds c.args.config.now c.args.bind_address c.loop-slot.slot) c.loop-slot.invariant
    (first_quiet c.args.config.now c.args.bind_address c.loop-slot.slot) c.in-Err-bind_socket.ensures.bound
