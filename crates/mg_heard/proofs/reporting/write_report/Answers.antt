use Rattle.std.proofs.Common.{◌≡◌, ◌∙◌, refl, rules, subst, sym}
use Rattle.std.specs.Io.KnownBytes.{Appends}
use Rattle.mg_core.specs.Note.{events_in}
use Rattle.mg_heard.specs.aids.Calling.{AreMissing}
use Rattle.mg_heard.specs.Lines.{head_of}
use Rattle.mg_heard.specs.Reported.{WritesReport}
use Rattle.mg_heard.specs.aids.Reporting.{HasReported, Reported}
use Rattle.mg_heard.specs.declared.style.Style.{Style}
use Rattle.mg_heard.proofs.ReportingLemmas.{if_done, reported_all, reported_whole}
use Rattle.mg_heard.proofs.reporting.write_report.Goals as goal

pub returns : goal.returns
returns g c =
    let held = g.W.Write.contents in
    let first = c.args.writer in
    let last = c.in_ok-report.report in
    let lines = c.in-Ok.lines in
    let begun = held c.write_head.new.writer in
    let start : Reported = record { style = c.write_head.new.self; query = c.args.query; written = begun } in
    let now : Reported = record { style = last.lines.now; query = last.query.now; written = held last.writer.now } in
    let formed : c.write_head.new.self ≡ c.args.style = c.write_head.ensures.same ∙ c.in-Ok.ensures.value in
    let begins : Appends (held first.now) begun (head_of c.args.style.format) =
    subst (λ (s : Style). Appends (held first.now) begun (head_of s.format)) c.in-Ok.ensures.value
    (if_done c.write_head.result (sym c.is_err.ensures.value ∙ c.if-is_err.false) c.write_head.ensures.value) in
    record {
      report = λ base stands.
          let told = c.in_ok-report.ensures.reported base stands in
          let name = c.in_ok-report.ensures.same_reference base stands in
          let (state, h) = reported_all base (g.R.Read.remaining c.args.reader.now)
          (g.R.Read.remaining c.hear_report.new.reader)
          (λ notes. AreMissing base (events_in notes) c.args.query.talker c.args.query.listener c.in_ok-report.missing)
          (λ extent xs. HasReported start now xs × (c.in_ok-report.extent ≡ extent))
          (λ extent xs. WritesReport c.args.style c.args.query (held first.now) (held last.writer.now) xs
          × (c.in_ok-report.extent ≡ extent))
          (λ extent xs h. (
            reported_whole c.args.style c.args.query (held first.now) start now xs formed refl begins h.0,
            h.1,
          )) told in
          let ((text, are, bytes), covers) = h.follows.1.told in (
            state,
            record {
              script = h.script;
              read = h.read;
              notes = h.notes;
              are = h.are;
              run = h.run;
              follows = (
                h.follows.0,
                record {
                  xs = h.follows.1.xs;
                  are = h.follows.1.are;
                  no_others = h.follows.1.no_others;
                  flow = h.follows.1.flow;
                  gaps = h.follows.1.gaps;
                  dated = h.follows.1.dated;
                  told = ((text, are, search rules), covers);
                },
              );
            },
          );
    }
