use Rattle.std.proofs.Common.{refl}
use Rattle.mg_heard.specs.aids.Reporting.{HasReported, Reported}
use Rattle.mg_heard.proofs.ReportingLemmas.{reported_none}
use Rattle.mg_audible.proofs.ReportLemmas.{reported_all}
use Rattle.mg_audible.proofs.reporting.hear_report.Goals as goal

pub returns : goal.returns
returns g c =
    let held = g.W.Write.contents in
    let first = c.args.report in
    let last = c.in_ok-report.report in
    let start : Reported = record { style = first.lines.now; query = first.query.now; written = held first.writer.now } in
    let now : Reported = record { style = last.lines.now; query = last.query.now; written = held last.writer.now } in
    record {
      same_reference = λ base stand is none.
          (c.in_ok-report.ensures.told base stand is none (refl, reported_none start)).1.follows.0.told.0;
      reported = λ base stand is none. reported_all base c.args.talker c.in_ok-report.has_rtp
          (g.R.Read.remaining c.args.reader.now) (g.R.Read.remaining c.hear_talker.new.reader) _
          (HasReported start now) (λ xs h. h.1)
          (c.in_ok-report.ensures.told base stand is none (refl, reported_none start));
    }
