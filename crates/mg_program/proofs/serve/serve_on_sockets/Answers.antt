use Rattle.std.proofs.Common.{false, sym, subst, Option, List}
use Rattle.std.specs.Option.{option_map_or}
use Rattle.mg_journal.specs.Journal.{no_journal}
use Rattle.mg_host.specs.declared.host_call.HostCall.{HostCall}
use Rattle.mg_program.specs.Decisions.{HasDecided, knows}
use Rattle.mg_program.proofs.serve.serve_on_sockets.Goals as goal

pub returns : goal.returns
returns g c =
    let ports = c.serve_on-outcome.new.ports in
    let known = knows ports.timing ports.ready false in
    record {
      value = λ text bound can. record {
        sound = c.requires.sound;
        runs = c.serve_on-outcome.ensures.started;
        start = can.world;
        reached = c.args.ready.gateway.reached;
        before = option_map_or (λ j. j) c.args.ready.journal no_journal;
        after = option_map_or (λ j. j) ports.journal no_journal;
        begun = g.E.Host.Tells.calls c.args.host;
        started = can.started;
        served = rw (c.new-ports.ensures.host, c.new-ports.ensures.journal) at
            (c.serve_on-outcome.ensures.session can.world can.stands);
        known = known;
        decided = subst (λ (x : Option (List HostCall)). HasDecided x (g.E.Host.Tells.calls ports.host) known)
            (sym c.requires.begins) ports.decided;
      };
    }
