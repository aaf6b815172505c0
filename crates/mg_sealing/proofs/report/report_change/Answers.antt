use Rattle.std.proofs.Common.{codes, decimal}
use Rattle.mg_sealing.proofs.ReportLemmas.{five}
use Rattle.mg_sealing.proofs.report.report_change.Goals as goal

pub returns : goal.returns
returns c = record {
  value = five (codes "changed after line ") (decimal c.args.right) (codes ", up to line ") (decimal c.args.wrong)
      (codes "\n") c.new-line.result.items c.push.new.line.items c.push_number.new.line.items c.push-2.new.line.items
      c.push_number-2.new.line.items c.push-3.new.line.items c.new-line.ensures c.push.ensures.value
      c.push_number.ensures.value c.push-2.ensures.value c.push_number-2.ensures.value c.push-3.ensures.value;
}
