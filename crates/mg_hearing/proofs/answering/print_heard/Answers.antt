use Rattle.mg_core.specs.Note.{events_in}
use Rattle.mg_heard.specs.aids.Calling.{AreMissing}
use Rattle.mg_hearing.proofs.HeardLemmas.{prints_answer, prints_report}
use Rattle.mg_hearing.proofs.answering.print_heard.Goals as goal

pub returns-in_ok-verdict-in-Some : goal.returns-in_ok-verdict-in-Some
returns-in_ok-verdict-in-Some g c =
    let asked = c.args.question in
    let heard = c.in_ok-verdict-in-Some in
    let (base, begins) = c.in_ok-core.ensures.base in
    let told = prints_answer asked asked.at c.in-Some.time base _ _ _ _
    (λ notes. AreMissing base (events_in notes) asked.query.talker asked.query.listener heard.missing)
    heard.missing heard.verdict c.status_for.result c.in-Some.is heard.ensures.written c.status_for.ensures.value
    (heard.ensures.answer base (c.in_ok-core.ensures.started base begins)) in
    record { value = (base, begins, told.0, told.1) }

pub returns-in_ok-missing-in-None : goal.returns-in_ok-missing-in-None
returns-in_ok-missing-in-None g c =
    let asked = c.args.question in
    let heard = c.in_ok-missing-in-None in
    let (base, begins) = c.in_ok-core.ensures.base in
    let told = prints_report asked asked.at base _ _ _ _
    (λ notes. AreMissing base (events_in notes) asked.query.talker asked.query.listener heard.missing)
    heard.missing c.status_if.result _ c.in-None.is c.status_if.ensures.value
    (heard.ensures.report base (c.in_ok-core.ensures.started base begins)) in
    record { value = (base, begins, told.0, told.1) }
