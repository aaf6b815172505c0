use Rattle.mg_core.specs.Note.{events_in}
use Rattle.mg_heard.specs.aids.Calling.{AreMissing}
use Rattle.mg_hearing.specs.Absence.{Receives, absences}
use Rattle.mg_hearing.specs.Heard.{IsHeard, Prints}
use Rattle.mg_hearing.specs.Page.{script_name}
use Rattle.mg_hearing.specs.aids.Forms.{PrintsLines}
use Rattle.mg_hearing.proofs.AbsenceLemmas.{reported}
use Rattle.mg_hearing.proofs.HeardLemmas.{is_heard, prints_more}
use Rattle.mg_hearing.proofs.PageLemmas.{as_lines}
use Rattle.mg_hearing.proofs.answering.hear_lines.Goals as goal

pub returns-in-Ok : goal.returns-in-Ok
returns-in-Ok g c =
    let request = c.args.asking.request.now in
    let asked = c.args.asking.question in
    let left = g.R.Read.remaining in
    let held = g.W.Write.contents in
    let said = Receives g.E.Write.contents c.args.errors.now c.report_missing.new.errors in
    let script = left c.args.reader.now in
    let old = held c.args.output.now in
    let new = held c.print_heard.new.output in
    let front = c.in_ok-front.field-0.front.items in
    let status = c.in-Ok.status in
    let missing = c.in-Ok.missing in
    let text = absences (script_name request.file request.later) request.query.talker request.query.listener missing in
    let (base, begins, state, h) =
    rw (c.chain-script.ensures.bytes, c.as_slice.ensures.value) at c.in-Ok.ensures.value in
    let printed = prints_more base _ _ state
    (λ notes. AreMissing base (events_in notes) asked.query.talker asked.query.listener missing)
    (PrintsLines asked asked.at old new missing status)
    (Prints asked.style.format asked.at request asked script old new missing status)
    (λ extent xs p. as_lines asked.style.format asked.at request asked script old new missing status extent xs
    c.requires.lines p) h in
    record {
      value = reported (λ s. IsHeard request asked script old new said s) status c.report_missing.result (said text)
          (λ says. is_heard request asked c.in_ok-front.field-0.start script (left c.begin.new.reader) front old new said missing status
          c.in_ok-front.ensures.value says (base, begins, _, state, printed))
          c.report_missing.ensures.value;
    }
