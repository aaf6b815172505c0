use Rattle.std.proofs.Common.{ℕ, List, true, false, sym, ◌∙◌, arith}
use Rattle.mg_words.specs.declared.peer.Peer.{Peer}
use Rattle.mg_ports.specs.Journaled.{ports_seen}
use Rattle.mg_serve.specs.aids.Outside.{outside}
use Rattle.mg_serve.proofs.Steps.{at_control, by_admission, media_taken, not_admitted}
use Rattle.mg_serve.proofs.server.Server.take.Goals as goal

pub returns-then-not-admits-clause-value : goal.returns-then-not-admits-clause-value
returns-then-not-admits-clause-value g c =
    let datagram : Peer × List ℕ = (c.args.datagram.source, c.args.datagram.bytes.now) in
    let core = c.args.self.now.core.state in
    let x = outside (ports_seen (g.P.Ports.calls c.args.ports.now) (g.P.Ports.journal c.args.ports.now))
    (g.W.Write.contents c.args.writer.now) c.args.self.now.printer c.args.self.now.journal in
    by_admission false c.args.setup.now c.args.socket datagram core core x x
    (λ w stands. sym c.if-not-admits.true ∙ c.admits.ensures.value w stands)
    (not_admitted c.args.setup.now c.args.socket datagram core x)

pub returns-then-socket-eq0-clause-value : goal.returns-then-socket-eq0-clause-value
returns-then-socket-eq0-clause-value g c =
    let old = c.args.self.now.core.state in
    let core = c.take_control.new.self.core.state in
    let x = outside (ports_seen (g.P.Ports.calls c.args.ports.now) (g.P.Ports.journal c.args.ports.now))
    (g.W.Write.contents c.args.writer.now) c.args.self.now.printer c.args.self.now.journal in
    let y = outside (ports_seen (g.P.Ports.calls c.take_control.new.ports) (g.P.Ports.journal c.take_control.new.ports))
    (g.W.Write.contents c.take_control.new.writer) c.take_control.new.self.printer c.take_control.new.self.journal in
    by_admission true c.args.setup.now c.args.socket (c.args.datagram.source, c.args.datagram.bytes.now) old core x y
    (λ w stands. sym c.if-not-admits.false ∙ c.admits.ensures.value w stands)
    (at_control c.args.setup.now c.args.socket c.args.datagram.source c.args.datagram.bytes.now old core x y c.if-socket-eq0.true
    c.take_control.ensures.value)

pub returns-else-socket-eq0-clause-value : goal.returns-else-socket-eq0-clause-value
returns-else-socket-eq0-clause-value g c =
    let old = c.args.self.now.core.state in
    let core = c.take_media.new.self.core.state in
    let seen = ports_seen (g.P.Ports.calls c.args.ports.now) (g.P.Ports.journal c.args.ports.now) in
    let held = g.W.Write.contents c.args.writer.now in
    let written = g.W.Write.contents c.take_media.new.writer in
    let before = c.args.self.now.printer in
    let after = c.take_media.new.self.printer in
    let journal = c.args.self.now.journal in
    rw c.take_media.ensures.journal
    (by_admission true c.args.setup.now c.args.socket (c.args.datagram.source, c.args.datagram.bytes.now) old core
    (outside seen held before journal) (outside seen written after journal)
    (λ w stands. sym c.if-not-admits.false ∙ c.admits.ensures.value w stands)
    (media_taken c.args.setup.now c.args.socket c.args.datagram.source c.args.datagram.bytes.now old core seen held written before after
    journal (omega (arith, c.if-socket-eq0.false)) c.take_media.ensures.value c.take_media.ensures.printed))
