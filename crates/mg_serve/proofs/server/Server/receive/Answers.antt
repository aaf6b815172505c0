use Rattle.std.proofs.Common.{take, refl, [], ◌∷◌, false, inl, inr}
use Rattle.mg_ports.specs.declared.call.Call.TheVariants.{Receive}
use Rattle.mg_ports.specs.declared.receipt.Receipt.TheVariants.{Delivered, Nothing, Failed}
use Rattle.mg_ports.specs.Journaled.{ports_seen}
use Rattle.mg_serve.specs.Trace.{Called}
use Rattle.mg_serve.specs.aids.Driving.{Received}
use Rattle.mg_serve.specs.aids.Outside.{outside}
use Rattle.mg_serve.proofs.Steps.{arrived}
use Rattle.mg_serve.proofs.Taking.{takes_told, tells_called}
use Rattle.mg_serve.proofs.server.Server.receive.Goals as goal

pub take-requires-clause-datagram : goal.take-requires-clause-datagram
take-requires-clause-datagram g c = rw c.as_slice.ensures at c.parts_fit.ensures.fit

pub returns-in-Ok-Some-clause-value : goal.returns-in-Ok-Some-clause-value
returns-in-Ok-Some-clause-value g c =
    let source = c.in-Ok-Some.source in
    let bytes = take c.in-Ok-Some.n c.receive.new.buffer in
    let before = c.args.self.now.printer in
    let journal = c.args.self.now.journal in
    let written = g.W.Write.contents c.args.writer.now in
    let seen = ports_seen (g.P.Ports.calls c.args.ports.now) (g.P.Ports.journal c.args.ports.now) in
    let later = ports_seen (g.P.Ports.calls c.receive.new.self) (g.P.Ports.journal c.receive.new.self) in
    let z = outside (ports_seen (g.P.Ports.calls c.take.new.ports) (g.P.Ports.journal c.take.new.ports))
    (g.W.Write.contents c.take.new.writer) c.take.new.self.printer c.take.new.self.journal in
    arrived c.args.setup.now c.args.socket source bytes c.args.self.now.core.state c.take.new.self.core.state
    (outside seen written before journal) (outside later written before journal) z
    (rw c.as_slice.ensures at c.parts_fit.ensures.fit)
    (tells_called written before journal seen later (Receive c.args.socket (Delivered source bytes) ∷ [])
    (rw c.from.ensures at (rw c.in-Ok-Some.field-0-is at c.in-Ok-Some.ensures.logged)) refl c.receive.ensures.journal)
    c.take.ensures.value

pub returns-in-Ok-None-clause-value : goal.returns-in-Ok-None-clause-value
returns-in-Ok-None-clause-value g c =
    let before = c.args.self.now.printer in
    let journal = c.args.self.now.journal in
    let written = g.W.Write.contents c.args.writer.now in
    let seen = ports_seen (g.P.Ports.calls c.args.ports.now) (g.P.Ports.journal c.args.ports.now) in
    let later = ports_seen (g.P.Ports.calls c.receive.new.self) (g.P.Ports.journal c.receive.new.self) in
    takes_told c.args.self.now.core.state (outside seen written before journal) (outside later written before journal)
    (Called (Receive c.args.socket Nothing) ∷ []) (Received c.args.setup.now c.args.socket false)
    (tells_called written before journal seen later (Receive c.args.socket Nothing ∷ [])
    (rw c.from.ensures at (rw c.in-Ok-None.field-0-is at c.in-Ok-None.ensures.logged)) refl c.receive.ensures.journal)
    (λ w. (inl refl, refl))

pub returns-in-Err-clause-value : goal.returns-in-Err-clause-value
returns-in-Err-clause-value g c =
    let before = c.args.self.now.printer in
    let journal = c.args.self.now.journal in
    let written = g.W.Write.contents c.args.writer.now in
    let seen = ports_seen (g.P.Ports.calls c.args.ports.now) (g.P.Ports.journal c.args.ports.now) in
    let later = ports_seen (g.P.Ports.calls c.receive.new.self) (g.P.Ports.journal c.receive.new.self) in
    takes_told c.args.self.now.core.state (outside seen written before journal) (outside later written before journal)
    (Called (Receive c.args.socket Failed) ∷ []) (Received c.args.setup.now c.args.socket false)
    (tells_called written before journal seen later (Receive c.args.socket Failed ∷ [])
    (rw c.from.ensures at c.in-Err.ensures.logged) refl c.receive.ensures.journal) (λ w. (inr refl, refl))
