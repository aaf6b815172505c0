use Rattle.mg_hearing.specs.Absence.{Receives}
use Rattle.mg_hearing.specs.Watched.{IsAnswered}
use Rattle.mg_hearing.proofs.AbsenceLemmas.{receives_from}
use Rattle.mg_hearing.proofs.ReadLemmas.{reads_file, reads_input, told}
use Rattle.mg_hearing.proofs.WatchedLemmas.{answered_from, answered_from_all}
use Rattle.mg_hearing.proofs.watching.watch.Goals as goal

pub returns-in_default-clause-value : goal.returns-in_default-clause-value
returns-in_default-clause-value g c =
    let says = Receives g.E.Write.contents in
    let held = g.W.Write.contents in
    let request = c.args.request.now in
    let asked = c.in-Ok.alarm in
    let input = g.R.Read.remaining c.args.input.now in
    let answer = c.watch_script-answer in
    let end = c.status_or_report in
    let begun = c.alarm_of.new.errors in
    answered_from request asked _ _ input input (held c.args.output.now) (held answer.new.output) (says begun end.new.errors)
    (says c.args.errors.now end.new.errors) end.result c.in-Ok.ensures.set (reads_input _ _ _ _ c.in_default.is)
    (λ text said. receives_from g.E.Write.contents c.args.errors.now begun end.new.errors text c.in-Ok.ensures.silent said)
    (told (λ errors s. IsAnswered request asked input (held c.args.output.now) (held answer.new.output) (says begun errors) s)
    answer.result answer.new.errors end.new.errors end.result answer.ensures.value end.ensures.value)

pub returns-then-not-is_empty-clause-value : goal.returns-then-not-is_empty-clause-value
returns-then-not-is_empty-clause-value g c =
    let says = Receives g.E.Write.contents in
    let held = g.W.Write.contents in
    let end = c.watch_files in
    let begun = c.alarm_of.new.errors in
    answered_from_all c.args.request.now c.in-Ok.alarm c.in-Some.path _ _ _ (held c.args.output.now) (held end.new.output)
    (says begun end.new.errors) (says c.args.errors.now end.new.errors) end.result c.in-Ok.ensures.set c.in-Some.is
    (rw c.if-not-is_empty.true at c.is_empty.ensures.value)
    (λ text said. receives_from g.E.Write.contents c.args.errors.now begun end.new.errors text c.in-Ok.ensures.silent said)
    end.ensures.value

pub returns-in-Ok-open_text-clause-value : goal.returns-in-Ok-open_text-clause-value
returns-in-Ok-open_text-clause-value g c =
    let says = Receives g.E.Write.contents in
    let held = g.W.Write.contents in
    let request = c.args.request.now in
    let asked = c.in-Ok.alarm in
    let script = g.H.Text.Read.remaining c.in-Ok-open_text.file in
    let answer = c.watch_script-answer-in-Ok-open_text in
    let end = c.status_or_report-in-Ok-open_text in
    let begun = c.alarm_of.new.errors in
    answered_from request asked _ _ script _ (held c.args.output.now) (held answer.new.output) (says begun end.new.errors)
    (says c.args.errors.now end.new.errors) end.result c.in-Ok.ensures.set
    (reads_file _ _ c.in-Some.path _ _ _ script c.in-Some.is (rw c.if-not-is_empty.false at c.is_empty.ensures.value)
    (rw c.as_str-name.ensures.value at c.in-Ok-open_text.ensures.opened))
    (λ text said. receives_from g.E.Write.contents c.args.errors.now begun end.new.errors text c.in-Ok.ensures.silent said)
    (told (λ errors s. IsAnswered request asked script (held c.args.output.now) (held answer.new.output) (says begun errors) s)
    answer.result answer.new.errors end.new.errors end.result answer.ensures.value end.ensures.value)
