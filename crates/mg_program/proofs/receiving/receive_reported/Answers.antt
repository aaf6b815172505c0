use Rattle.std.proofs.Common.{true, false, [], ◌∷◌, refl}
use Rattle.mg_ports.specs.declared.call.Call.TheVariants.{Receive}
use Rattle.mg_ports.specs.Calls.{receipt_of}
use Rattle.mg_program.specs.Decisions.{knows}
use Rattle.mg_program.proofs.DecisionLemmas.{does_both}
use Rattle.mg_program.proofs.receiving.receive_reported.Goals as goal

pub returns-then-socket-eq0-clause-done : goal.returns-then-socket-eq0-clause-done
returns-then-socket-eq0-clause-done g c = λ timing.
    does_both (g.H.Tells.calls c.args.host.now) (g.H.Tells.calls c.ask.new.host) (g.H.Tells.calls c.receive_if_ready.new.host) []
    (Receive c.args.socket (receipt_of c.receive_if_ready.result c.receive_if_ready.new.buffer) ∷ [])
    (knows timing c.args.ready.now false) (knows timing c.ask.new.ready true) (knows timing c.receive_if_ready.new.ready false)
    (c.ask.ensures.done timing) (c.receive_if_ready.ensures.done timing true (λ zero. refl))
