use Rattle.std.proofs.Common.{◌∙◌, sym}
use Rattle.mg_program.proofs.EndLemmas.{fault_is_told}
use Rattle.mg_program.proofs.ReplayLemmas.{replays_behind}
use Rattle.mg_program.proofs.replay.replay_behind.Goals as goal

pub returns-in-Err-clause-quiet : goal.returns-in-Err-clause-quiet
returns-in-Err-clause-quiet g c = λ done.
    let (fault, good, is) = c.report_unresumed.ensures.status in absurd (fault_is_told fault (sym is ∙ done))

pub returns-clause-value : goal.returns-clause-value
returns-clause-value g c =
    let left = g.E.Input.Read.remaining in
    let held = g.E.Output.Write.contents in
    let ran = c.run_from-outcome in
    let (base, stands, leaves) = c.in-Ok.ensures.value in
    replays_behind c.args.config base c.args.shown (left c.args.outside.now.input) (left c.resume.new.reader)
    (left ran.new.reader) (held c.args.outside.now.output) (held ran.new.writer) ran.result c.behind-outcome.result
    c.status_after.result c.requires.valid ran.ensures.good c.behind-outcome.ensures.status c.status_after.ensures.value
    leaves (ran.ensures.script base stands)
