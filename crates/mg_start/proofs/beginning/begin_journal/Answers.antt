use Rattle.std.proofs.Common.{[], None, Some}
use Rattle.std.specs.Option.{option_map_or}
use Rattle.mg_journal.specs.Journal.{no_journal}
use Rattle.mg_journal.specs.aids.Opened.{text_in}
use Rattle.mg_start.proofs.LogLemmas.{dated_quiet}
use Rattle.mg_start.proofs.StartLemmas.{starts_anew, starts_from}
use Rattle.mg_start.proofs.beginning.begin_journal.Goals as goal

pub returns-in-Ok-clause-started : goal.returns-in-Ok-clause-started
returns-in-Ok-clause-started g c =
    let found = c.in-Some-found.found in
    let (missed, millis, read, is, grows, passes, begun, written) = c.in-Ok.ensures.passed in
    rw (c.in-Some.is, c.in-Some-found.is) (starts_from c.in-Some.path (text_in found.opening.file) c.args.gateway.now.config
    c.args.gateway.now.core.state c.begin.new.gateway.core.state found.timeline missed c.args.gateway.now.service.now.fence_from millis c.args.gateway.now.reached
    c.in-Ok.journal (g.E.Host.Tells.calls c.args.host.now) read (g.E.Host.Tells.calls c.begin.new.host)
    (rw c.in-Some-found.is at c.requires.resumed) is grows passes begun written)

pub returns-in_default-clause-started : goal.returns-in_default-clause-started
returns-in_default-clause-started g c =
    rw c.in_default.is (starts_anew (option_map_or (λ j. text_in j.opening.file) c.args.found (Some []))
    (option_map_or (λ j. j.timeline) c.args.found None) c.args.gateway.now.service.now.fence_from
    c.args.gateway.now.config c.args.gateway.now.core.state c.args.gateway.now.reached no_journal
    (g.E.Host.Tells.calls c.args.host.now) c.requires.resumed)

pub returns-in-Err-clause-fails : goal.returns-in-Err-clause-fails
returns-in-Err-clause-fails g c =
    let (missed, millis, read, is, grows, passes, begun, quiet) = c.in-Err.ensures.passed in
    dated_quiet (g.E.Host.Tells.calls c.args.host.now) read (g.E.Host.Tells.calls c.begin.new.host) millis grows quiet
