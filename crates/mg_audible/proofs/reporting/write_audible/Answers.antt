use Rattle.std.proofs.Common.{◌≡◌, ◌∙◌, refl, rules, subst, sym}
use Rattle.std.specs.Io.KnownBytes.{Appends}
use Rattle.mg_heard.specs.Lines.{head_of}
use Rattle.mg_heard.specs.Reported.{WritesReport}
use Rattle.mg_heard.specs.aids.Reporting.{HasReported, Reported}
use Rattle.mg_heard.specs.declared.style.Style.{Style}
use Rattle.mg_heard.proofs.ReportingLemmas.{if_done, reported_whole}
use Rattle.mg_audible.proofs.ReportLemmas.{reported_all}
use Rattle.mg_audible.proofs.reporting.write_audible.Goals as goal

pub returns : goal.returns
returns g c =
    let held = g.W.Write.contents in
    let first = c.args.writer in
    let asked = c.args.asked in
    let last = c.in_ok-report.report in
    let has_rtp = c.in_ok-report.has_rtp in
    let lines = c.in-Ok.lines in
    let begun = held c.write_head.new.writer in
    let start : Reported = record { style = c.write_head.new.self; query = asked.query; written = begun } in
    let now : Reported = record { style = last.lines.now; query = last.query.now; written = held last.writer.now } in
    let formed : c.write_head.new.self ≡ c.args.style = c.write_head.ensures.same ∙ c.in-Ok.ensures.value in
    let begins : Appends (held first.now) begun (head_of c.args.style.format) =
    subst (λ (s : Style). Appends (held first.now) begun (head_of s.format)) c.in-Ok.ensures.value
    (if_done c.write_head.result (sym c.is_err.ensures.value ∙ c.if-is_err.false) c.write_head.ensures.value) in
    record {
      report = λ base stand valid none.
          let told = c.in_ok-report.ensures.reported base stand valid none in
          let name = c.in_ok-report.ensures.same_reference base stand valid none in
          let (state, h) = reported_all base asked.talker has_rtp (g.R.Read.remaining c.args.reader.now)
          (g.R.Read.remaining c.hear_report.new.reader) (HasReported start now)
          (WritesReport c.args.style asked.query (held first.now) (held last.writer.now))
          (λ xs h. reported_whole c.args.style asked.query (held first.now) start now xs formed refl begins h) told in
          let (text, are, bytes) = h.follows.0.told in (
            state,
            record {
              script = h.script;
              read = h.read;
              notes = h.notes;
              are = h.are;
              run = h.run;
              follows = (
                record {
                  xs = h.follows.0.xs;
                  no_others = h.follows.0.no_others;
                  are = h.follows.0.are;
                  differ = h.follows.0.differ;
                  speech = h.follows.0.speech;
                  gaps = h.follows.0.gaps;
                  dated = h.follows.0.dated;
                  told = (text, are, search rules);
                },
                h.follows.1,
              );
            },
          );
    }
