use Rattle.std.proofs.Common.{rules, ◌∙◌, ◌++◌, List, ap, sym, ℕ}
use Rattle.mg_heard.proofs.ReportingLemmas.{if_done}
use Rattle.mg_hearing.proofs.BeginningLemmas.{begun, begun_behind}
use Rattle.mg_hearing.proofs.beginning.begin.Goals as goal

pub returns-else-is_err : goal.returns-else-is_err
returns-else-is_err g c =
    let left = g.R.Read.remaining in
    let line = c.in_ok-front.front.items in
    let (first, is) = c.in_ok-front.ensures.value in
    let more = rw c.in-Ok-Script.field-0-is at c.in-Ok-Script.ensures.value in
    let extends = if_done c.try_extend_from_slice.result (sym c.is_err.ensures.value ∙ c.if-is_err.false)
    c.try_extend_from_slice.ensures.ok in
    record {
      value = begun c.in_ok-front.config line c.in-Ok-Script.bytes.items c.try_extend_from_slice.new.self.items
          (left c.args.reader.now) (left c.read_title.new.reader) (left c.read_behind.new.reader) first is more
          (extends ∙ ap (λ (l : List ℕ). line ++ l) c.as_slice.ensures.value);
    }

pub returns-in-Ok-Checkpoint : goal.returns-in-Ok-Checkpoint
returns-in-Ok-Checkpoint g c =
    let left = g.R.Read.remaining in
    let (first, is) = c.in_ok-front.ensures.value in
    let more = rw c.in-Ok-Checkpoint.field-0-is at c.in-Ok-Checkpoint.ensures.value in
    record {
      value = (
        search rules,
        begun_behind c.in_ok-front.config c.in_ok-front.front.items c.in-Ok-Checkpoint.text.items
            (left c.args.reader.now) (left c.read_title.new.reader) (left c.read_behind.new.reader) first is more,
      );
    }
