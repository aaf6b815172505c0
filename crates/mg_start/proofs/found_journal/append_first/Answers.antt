use Rattle.mg_service.specs.Title.{title_line}
use Rattle.mg_start.specs.Journal.{start_lines}
use Rattle.mg_start.proofs.LogLemmas.{fails_then, logs_both}
use Rattle.mg_start.proofs.found_journal.append_first.Goals as goal

pub returns-clause-new_logged : goal.returns-clause-new_logged
returns-clause-new_logged g c = λ is.
    logs_both (g.T.Tells.calls c.args.host.now) (g.T.Tells.calls c.append_title.new.host)
    (g.T.Tells.calls c.append_start-2.new.host) (title_line c.args.config.now) (start_lines c.args.start.missed c.args.start.fence)
    c.append_start-2.result c.in_default.ensures.logged c.append_start-2.ensures.logged

pub returns-clause-fails : goal.returns-clause-fails
returns-clause-fails g c =
    fails_then (g.T.Tells.calls c.args.host.now) (g.T.Tells.calls c.append_title.new.host)
    (g.T.Tells.calls c.append_start-2.new.host) (title_line c.args.config.now) (start_lines c.args.start.missed c.args.start.fence)
    c.append_start-2.result c.in_default.ensures.logged c.append_start-2.ensures.logged
