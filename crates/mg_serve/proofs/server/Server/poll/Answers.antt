use Rattle.std.proofs.Common.{ap, ◌≡◌, ◌+◌, ℕ, subst, arith}
use Rattle.std.specs.List.{range_with_len}
use Rattle.mg_ports.specs.Journaled.{ports_seen}
use Rattle.mg_serve.specs.Session.{Each, SocketTurn}
use Rattle.mg_serve.specs.aids.Outside.{LeadsByTrace, outside}
use Rattle.mg_serve.proofs.Taking.{one_turn_more}
use Rattle.mg_serve.proofs.server.Server.poll.Goals as goal

pub loop-socket-preserved : goal.loop-socket-preserved
loop-socket-preserved g c = record {
  few = omega (arith, c.turn.ensures.few, c.loop-socket.invariant.few);
  taken = one_turn_more c.args.self.now.core.state c.loop-socket.self.core.state c.turn.new.self.core.state
      (outside (ports_seen (g.P.Ports.calls c.args.ports.now) (g.P.Ports.journal c.args.ports.now))
      (g.W.Write.contents c.args.writer.now) c.args.self.now.printer c.args.self.now.journal)
      (outside (ports_seen (g.P.Ports.calls c.loop-socket.ports) (g.P.Ports.journal c.loop-socket.ports))
      (g.W.Write.contents c.loop-socket.writer) c.loop-socket.self.printer c.loop-socket.self.journal)
      (outside (ports_seen (g.P.Ports.calls c.turn.new.ports) (g.P.Ports.journal c.turn.new.ports))
      (g.W.Write.contents c.turn.new.writer) c.turn.new.self.printer c.turn.new.self.journal)
      c.args.setup.now c.loop-socket.socket c.loop-socket.invariant.taken c.turn.ensures.value;
}

pub returns-2-clause-value : goal.returns-2-clause-value
returns-2-clause-value g c =
    let end : c.config-socket-end.result.slots ≡ c.args.setup.now.config.slots = ap (λ o. o.slots) c.config-socket-end.ensures.value in
    let last : c.loop-socket.socket ≡ c.args.setup.now.config.slots = omega (arith, c.loop-socket-test.true, end) in
    let x = outside (ports_seen (g.P.Ports.calls c.args.ports.now) (g.P.Ports.journal c.args.ports.now))
    (g.W.Write.contents c.args.writer.now) c.args.self.now.printer c.args.self.now.journal in
    let z = outside (ports_seen (g.P.Ports.calls c.turn.new.ports) (g.P.Ports.journal c.turn.new.ports))
    (g.W.Write.contents c.turn.new.writer) c.turn.new.self.printer c.turn.new.self.journal in
    subst (λ (n : ℕ). LeadsByTrace c.args.self.now.core.state c.turn.new.self.core.state x z
    (Each (SocketTurn c.args.setup.now) (range_with_len 0 (n + 1)))) last
    (one_turn_more c.args.self.now.core.state c.loop-socket.self.core.state c.turn.new.self.core.state x
    (outside (ports_seen (g.P.Ports.calls c.loop-socket.ports) (g.P.Ports.journal c.loop-socket.ports))
    (g.W.Write.contents c.loop-socket.writer) c.loop-socket.self.printer c.loop-socket.self.journal) z
    c.args.setup.now c.loop-socket.socket c.loop-socket.invariant.taken c.turn.ensures.value)
