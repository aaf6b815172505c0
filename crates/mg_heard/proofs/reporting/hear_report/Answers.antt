use Rattle.std.proofs.Common.{◌≡◌, refl}
use Rattle.mg_core.specs.Note.{events_in}
use Rattle.mg_heard.specs.aids.Calling.{AreMissing}
use Rattle.mg_heard.specs.aids.Reporting.{HasReported, Reported}
use Rattle.mg_heard.proofs.ReportingLemmas.{reported_all, reported_none}
use Rattle.mg_heard.proofs.reporting.hear_report.Goals as goal

pub returns : goal.returns
returns g c =
    let held = g.W.Write.contents in
    let first = c.args.report in
    let last = c.in_ok-report.report in
    let query = first.query.now in
    let start : Reported = record { style = first.lines.now; query = query; written = held first.writer.now } in
    let now : Reported = record { style = last.lines.now; query = last.query.now; written = held last.writer.now } in
    record {
      same_reference = λ base stands.
          (c.in_ok-report.ensures.told base query.talker query.listener stands (refl, reported_none start)
          c.in-Ok.ensures.value).1.follows.1.told.0.0;
      reported = λ base stands. reported_all base (g.R.Read.remaining c.args.reader.now)
          (g.R.Read.remaining c.hear.new.reader)
          (λ notes. AreMissing base (events_in notes) query.talker query.listener c.in_ok-report.missing) _
          (λ extent xs. HasReported start now xs × (c.in_ok-report.extent ≡ extent)) (λ extent xs h. (h.0.1, h.1))
          (c.in_ok-report.ensures.told base query.talker query.listener stands (refl, reported_none start)
          c.in-Ok.ensures.value);
    }
