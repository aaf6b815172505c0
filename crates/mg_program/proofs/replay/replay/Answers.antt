use Rattle.mg_program.proofs.ReplayLemmas.{replays_looked, replays_new}
use Rattle.mg_program.proofs.replay.replay.Goals as goal

pub returns-then-is_renewed-clause-value : goal.returns-then-is_renewed-clause-value
returns-then-is_renewed-clause-value g c =
    let left = g.E.Input.Read.remaining in
    let held = g.E.Output.Write.contents in
    let outside = c.replay_behind.new.outside in
    replays_looked c.args.config c.args.shown (left c.args.outside.now.input) (left c.is_renewed.new.input)
    (left outside.input) (held c.args.outside.now.output) (held outside.output) c.replay_behind.result
    c.is_renewed.ensures.unread c.replay_behind.ensures.value

pub returns-clause-value : goal.returns-clause-value
returns-clause-value g c =
    let left = g.E.Input.Read.remaining in
    let held = g.E.Output.Write.contents in
    let ran = c.run-outcome in
    let old = held c.args.outside.now.output in
    replays_looked c.args.config c.args.shown (left c.args.outside.now.input) (left c.is_renewed.new.input)
    (left ran.new.reader) old (held ran.new.writer) c.status_after.result c.is_renewed.ensures.unread
    (replays_new c.args.config c.args.shown (left c.is_renewed.new.input) (left ran.new.reader) old
    (held ran.new.writer) ran.result c.status_after.result c.status_after.ensures.value ran.ensures.script
    ran.ensures.bad)
