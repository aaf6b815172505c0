use Rattle.mg_program.specs.Serve.{binds_of}
use Rattle.mg_program.proofs.PortLemmas.{binds_quiet, no_session, no_session_then}
use Rattle.mg_program.proofs.ready.make_ready.Goals as goal

pub returns-in-Err-check_metrics-clause-fails : goal.returns-in-Err-check_metrics-clause-fails
returns-in-Err-check_metrics-clause-fails g c =
    no_session (g.E.Host.Tells.calls c.args.host.now) (g.E.Host.Tells.calls c.bind.new.host)
    (binds_of c.args.prepared.config c.args.service.now.bind_addresses) c.in_default.ensures.bound
    (binds_quiet c.args.prepared.config c.args.service.now.bind_addresses)

pub returns-clause-fails : goal.returns-clause-fails
returns-clause-fails g c =
    no_session_then (g.E.Host.Tells.calls c.args.host.now) (g.E.Host.Tells.calls c.bind.new.host)
    (g.E.Host.Tells.calls c.begin_journal.new.host) (binds_of c.args.prepared.config c.args.service.now.bind_addresses)
    c.in_default.ensures.bound
    (binds_quiet c.args.prepared.config c.args.service.now.bind_addresses)
    c.in-Err-begin_journal.ensures.fails
