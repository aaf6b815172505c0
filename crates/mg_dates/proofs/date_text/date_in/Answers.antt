use Rattle.std.proofs.Common.{ap, ◌∙◌}
use Rattle.mg_dates.specs.Dates.{date_of_text}
use Rattle.mg_dates.proofs.TimeLemmas.{date_read, date_unread}
use Rattle.mg_dates.proofs.date_text.date_in.Goals as goal

pub returns-in-Ok : goal.returns-in-Ok
returns-in-Ok c =
    let (begins, is, size) = c.in_ok-text.ensures.cases in
    let (same, utf8) = c.in-Ok.ensures.cases in
    record {
      value = c.of_text.ensures.value ∙ ap date_of_text same
          ∙ date_read c.args.line.now c.as_slice.result.now c.in_ok-text.text.now c.as_slice.ensures begins is utf8;
    }

pub returns-in-Err : goal.returns-in-Err
returns-in-Err c =
    let (begins, is, size) = c.in_ok-text.ensures.cases in
    record {
      value = date_unread c.args.line.now c.as_slice.result.now c.in_ok-text.text.now c.as_slice.ensures is
          c.in-Err.ensures.cases.0;
    }
