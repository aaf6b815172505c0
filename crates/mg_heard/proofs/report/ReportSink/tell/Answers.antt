use Rattle.std.proofs.Common.{sym, ◌∙◌}
use Rattle.std.proofs.lemmas.Result.{on_ok_weaker}
use Rattle.mg_heard.specs.aids.Reporting.{Reported}
use Rattle.mg_heard.proofs.ReportLemmas.{reported_more_on}
use Rattle.mg_heard.proofs.report.ReportSink.tell.Goals as goal

pub returns-then-selects_entry : goal.returns-then-selects_entry
returns-then-selects_entry g c =
    let held = g.W.Write.contents in
    let self = c.args.self.now in
    let old : Reported = record { style = self.lines.now; query = self.query.now; written = held self.writer.now } in
    record {
      value = λ start before h. rw c.write_entry.ensures.same (on_ok_weaker c.write_entry.result (λ all. (h.0, all))
          (reported_more_on
          (record { style = start.lines.now; query = start.query.now; written = held start.writer.now }) old before
          c.args.entry.now (held c.write_entry.new.writer) c.write_entry.result
          (sym c.selects_entry.ensures.value ∙ c.if-selects_entry.true) c.write_entry.ensures.value h.1));
    }
