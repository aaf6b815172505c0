use Rattle.std.proofs.Common.{refl}
use Rattle.mg_ports.specs.Journaled.{ports_seen}
use Rattle.mg_serve.specs.Session.{Performs}
use Rattle.mg_serve.specs.aids.Outside.{outside}
use Rattle.mg_serve.specs.declared.command.Command.TheVariants.{Quit}
use Rattle.mg_serve.proofs.Taking.{takes_none}
use Rattle.mg_serve.proofs.server.Server.execute.Goals as goal

pub returns-in-Quit-clause-value : goal.returns-in-Quit-clause-value
returns-in-Quit-clause-value g c =
    rw c.in-Quit.is (takes_none c.args.self.now.core.state
    (outside (ports_seen (g.P.Ports.calls c.args.ports.now) (g.P.Ports.journal c.args.ports.now))
    (g.W.Write.contents c.args.writer.now) c.args.self.now.printer c.args.self.now.journal)
    (Performs c.args.setup.now Quit) (λ w. (refl, refl)))
