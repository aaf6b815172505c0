use Rattle.mg_core.specs.Note.{events_in}
use Rattle.mg_heard.specs.aids.Calling.{AreMissing}
use Rattle.mg_hearing.proofs.PageLemmas.{as_table}
use Rattle.mg_hearing.proofs.paging.write_table.Goals as goal

pub returns-in_ok-written-in-Ok : goal.returns-in_ok-written-in-Ok
returns-in_ok-written-in-Ok g c =
    let held = g.W.Write.contents in
    let left = g.R.Read.remaining in
    let asked = c.args.question in
    let (front, is, writes) = c.in-Ok.ensures.value in
    let (base, begins) = c.in_ok-core-in-Ok.ensures.base in
    let table = rw c.in_ok-written-in-Ok.was at (as_table c.args.request.now asked base (left c.args.reader.now)
    (left c.write_report.new.reader) (held c.args.output.now) (held c.write_front.new.output)
    (held c.write_report.new.writer) front
    (λ missing notes. AreMissing base (events_in notes) asked.query.talker asked.query.listener missing)
    c.write_report.result is writes
    (c.write_report.ensures.report base (c.in_ok-core-in-Ok.ensures.started base begins))) in
    record { value = (base, begins, table.0, table.1) }
