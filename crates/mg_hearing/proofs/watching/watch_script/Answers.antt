use Rattle.std.proofs.Common.{[], is_some, refl, if◌then◌else◌}
use Rattle.mg_options.specs.declared.status.Status.{Status}
use Rattle.mg_hearing.specs.Absence.{Receives}
use Rattle.mg_hearing.specs.Page.{script_name}
use Rattle.mg_hearing.specs.Watched.{IsAnswered, status_for}
use Rattle.mg_hearing.specs.aids.Absences.{all_absences}
use Rattle.mg_hearing.proofs.AbsenceLemmas.{reported}
use Rattle.mg_hearing.proofs.WatchedLemmas.{is_answered}
use Rattle.mg_hearing.proofs.watching.watch_script.Goals as goal

pub returns-in-Ok-write_violation : goal.returns-in-Ok-write_violation
returns-in-Ok-write_violation g c =
    let request = c.args.request.now in
    let alarm = c.args.alarm in
    let left = g.R.Read.remaining in
    let held = g.W.Write.contents in
    let said = Receives g.E.Write.contents c.args.errors.now c.end_watch.new.errors in
    let found = c.in-Ok-write_violation.found in
    let missing = c.in-Ok-write_violation.missing.items in
    let text = if is_some found then [] else all_absences (script_name request.file request.later) request.rules missing in
    let (base, begins) = c.in-Ok.ensures.base in
    let h =
    rw (c.chain-script.ensures.bytes, c.as_slice.ensures.value, c.as_slice-2.ensures.value)
    at (c.in-Ok-write_violation.ensures.watched base (c.in-Ok.ensures.started base begins)) in
    record {
      value = reported
          (λ (s : Status). IsAnswered request alarm (left c.args.reader.now) (held c.args.output.now)
          (held c.write_violation.new.writer) said s)
          (status_for found) c.end_watch.result (said text)
          (λ says. is_answered request alarm c.in_ok-front.field-0.start (left c.args.reader.now) (left c.begin.new.reader) _
          c.in_ok-front.field-0.front.items base (held c.args.output.now) (held c.write_violation.new.writer) found missing said
          (status_for found) c.in_ok-front.ensures.value begins h c.in-Ok-write_violation.ensures.written refl says)
          (rw c.as_slice-in-Ok-write_violation.ensures.value at c.end_watch.ensures.value);
    }
