use Rattle.std.proofs.Common.{◌≡◌, ◌+◌, ℕ, true, false, subst, arith}
use Rattle.mg_ports.specs.Journaled.{ports_seen}
use Rattle.mg_serve.specs.Session.{SocketTurn}
use Rattle.mg_serve.specs.aids.Driving.{Received}
use Rattle.mg_serve.specs.aids.Outside.{outside}
use Rattle.mg_serve.proofs.Taking.{takes_none, takes_then, takes_as}
use Rattle.mg_serve.proofs.Steps.{HaveCome, none_came, one_more, turn_ended, turn_full}
use Rattle.mg_serve.proofs.server.Server.turn.Goals as goal

pub loop-init : goal.loop-init
loop-init g c = record {
  few = omega arith;
  taken = takes_none c.args.self.now.core.state
      (outside (ports_seen (g.P.Ports.calls c.args.ports.now) (g.P.Ports.journal c.args.ports.now))
      (g.W.Write.contents c.args.writer.now) c.args.self.now.printer c.args.self.now.journal)
      (HaveCome c.args.setup.now c.args.socket 0) (none_came c.args.setup.now c.args.socket);
}

pub returns-then-not-receive-clause-value : goal.returns-then-not-receive-clause-value
returns-then-not-receive-clause-value g c =
    let setup = c.args.setup.now in
    takes_then c.args.self.now.core.state c.loop.self.core.state c.receive.new.self.core.state
    (outside (ports_seen (g.P.Ports.calls c.args.ports.now) (g.P.Ports.journal c.args.ports.now))
    (g.W.Write.contents c.args.writer.now) c.args.self.now.printer c.args.self.now.journal)
    (outside (ports_seen (g.P.Ports.calls c.loop.ports) (g.P.Ports.journal c.loop.ports))
    (g.W.Write.contents c.loop.writer) c.loop.self.printer c.loop.self.journal)
    (outside (ports_seen (g.P.Ports.calls c.receive.new.ports) (g.P.Ports.journal c.receive.new.ports))
    (g.W.Write.contents c.receive.new.writer) c.receive.new.self.printer c.receive.new.self.journal)
    (HaveCome setup c.args.socket c.loop.counter) (Received setup c.args.socket false)
    (SocketTurn setup c.args.socket) c.loop.invariant.taken (rw c.if-not-receive.true at c.receive.ensures.value)
    (λ w mid next p q h k. turn_ended setup c.args.socket c.loop.counter w mid next p q c.loop-test.true h k)

pub loop-preserved : goal.loop-preserved
loop-preserved g c =
    let setup = c.args.setup.now in
    record {
      few = omega (arith, c.receive.ensures.few, c.loop.invariant.few);
      taken = takes_then c.args.self.now.core.state c.loop.self.core.state c.receive.new.self.core.state
          (outside (ports_seen (g.P.Ports.calls c.args.ports.now) (g.P.Ports.journal c.args.ports.now))
          (g.W.Write.contents c.args.writer.now) c.args.self.now.printer c.args.self.now.journal)
          (outside (ports_seen (g.P.Ports.calls c.loop.ports) (g.P.Ports.journal c.loop.ports))
          (g.W.Write.contents c.loop.writer) c.loop.self.printer c.loop.self.journal)
          (outside (ports_seen (g.P.Ports.calls c.receive.new.ports) (g.P.Ports.journal c.receive.new.ports))
          (g.W.Write.contents c.receive.new.writer) c.receive.new.self.printer c.receive.new.self.journal)
          (HaveCome setup c.args.socket c.loop.counter) (Received setup c.args.socket true)
          (HaveCome setup c.args.socket (c.loop.counter + 1)) c.loop.invariant.taken
          (rw c.if-not-receive.false at c.receive.ensures.value)
          (one_more setup c.args.socket c.loop.counter);
    }

pub returns-clause-value : goal.returns-clause-value
returns-clause-value g c =
    let setup = c.args.setup.now in
    let full : c.loop.counter ≡ 64 = omega (arith, c.loop-test.false, c.loop.auto.counter-end) in
    takes_as c.args.self.now.core.state c.loop.self.core.state
    (outside (ports_seen (g.P.Ports.calls c.args.ports.now) (g.P.Ports.journal c.args.ports.now))
    (g.W.Write.contents c.args.writer.now) c.args.self.now.printer c.args.self.now.journal)
    (outside (ports_seen (g.P.Ports.calls c.loop.ports) (g.P.Ports.journal c.loop.ports))
    (g.W.Write.contents c.loop.writer) c.loop.self.printer c.loop.self.journal)
    (HaveCome setup c.args.socket c.loop.counter) (SocketTurn setup c.args.socket) c.loop.invariant.taken
    (λ w next p h. turn_full setup c.args.socket w next p
    (subst (λ (n : ℕ). HaveCome setup c.args.socket n w p next) full h))
