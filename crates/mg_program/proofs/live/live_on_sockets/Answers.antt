use Rattle.std.proofs.Common.{false, sym, subst, Option, List, Err}
use Rattle.std.specs.Option.{option_map_or}
use Rattle.mg_clock.specs.Ticks.{ClockSeen, clock_seen}
use Rattle.mg_journal.specs.Journal.{no_journal}
use Rattle.mg_ports.specs.Journaled.{PortsSeen, ports_seen}
use Rattle.mg_serve.specs.Serve.{Served, form_of}
use Rattle.mg_host.specs.declared.host_call.HostCall.{HostCall}
use Rattle.mg_host.specs.HostCalls.{port_calls}
use Rattle.mg_service.specs.Setup.{setup_of}
use Rattle.mg_service.specs.Title.{title_if}
use Rattle.mg_program.specs.Decisions.{HasDecided, knows}
use Rattle.mg_program.specs.Serve.{ByClock, Gives}
use Rattle.mg_program.proofs.FailLemmas.{fault_ran, served_any}
use Rattle.mg_program.proofs.live.live_on_sockets.Goals as goal

pub returns : goal.returns
returns g c =
    let config = c.args.ready.gateway.config in
    let service = c.args.ready.gateway.service.now in
    let ports = c.live_on-fault.new.ports in
    let last : Option (List HostCall) = g.E.Host.Tells.calls c.stop.new.self in
    let before = option_map_or (λ j. j) c.args.ready.journal no_journal in
    let after = option_map_or (λ j. j) ports.journal no_journal in
    let old = ports_seen (port_calls (g.E.Host.Tells.calls c.args.host)) before in
    let new : Option (List HostCall) → PortsSeen = λ calls. ports_seen (port_calls calls) after in
    let unread = clock_seen (g.E.Host.Watch.Watch.readings c.args.timer.watch) (g.E.Host.Watch.Watch.waits c.args.timer.watch) in
    let clock = clock_seen (g.E.Host.Watch.Watch.readings c.live_on-fault.new.timer.watch)
    (g.E.Host.Watch.Watch.waits c.live_on-fault.new.timer.watch) in
    let known = knows ports.timing ports.ready false in
    let begun = g.E.Host.Tells.calls c.args.host in
    let setup = setup_of config c.args.ready.gateway.reached service in
    let title = title_if service.records config in
    let fault = c.live_on-fault.result in
    let held = g.E.Output.Write.contents c.args.output.now in
    let written = g.E.Output.Write.contents c.live_on-fault.new.output in
    record {
      value = λ text bound can. record {
        sound = c.requires.sound;
        runs = fault_ran c.live_on-fault.result c.live_on-fault.ensures.started;
        start = can.world;
        reached = c.args.ready.gateway.reached;
        before = before;
        after = after;
        begun = g.E.Host.Tells.calls c.args.host;
        started = can.started;
        served = subst (λ (s : ClockSeen). Served setup can.world title (Gives (ByClock c.args.timer.late s) (form_of title) begun (Err fault))
            old (new last) held written (Err fault)) (sym c.stop.ensures.stopped)
            (subst (λ (x : Option (List HostCall)). Served setup can.world title
            (Gives (ByClock c.args.timer.late clock) (form_of title) begun (Err fault)) old (new x) held written (Err fault))
            (sym c.stop.ensures.same)
            (served_any setup can.world title c.args.timer.late unread clock (g.E.Host.Watch.Watch.Fails c.live_on-fault.new.timer.watch)
            begun old (new (g.E.Host.Tells.calls ports.host)) held written fault c.requires.unread
            (rw (c.new-ports.ensures.host, c.new-ports.ensures.journal) at
            (c.live_on-fault.ensures.session can.world can.stands))));
        known = known;
        decided = subst (λ (x : Option (List HostCall)). HasDecided x last known) (sym c.requires.begins)
            (subst (λ (x : Option (List HostCall)). HasDecided g.L.LogKey.calls x known) (sym c.stop.ensures.same)
            ports.decided);
      };
    }
