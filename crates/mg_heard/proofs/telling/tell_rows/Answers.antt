use Rattle.std.proofs.Common.{◌++◌, List, map, take, sym, ap, subst, ◌∙◌}
use Rattle.std.proofs.lemmas.List.{take_all}
use Rattle.mg_heard.specs.aids.Keeping.{entry_until}
use Rattle.mg_heard.specs.aids.Rows.{intervals_of}
use Rattle.mg_heard.specs.declared.entry.Entry.{Entry}
use Rattle.mg_heard.specs.declared.listener_row.ListenerRow.{ListenerRow}
use Rattle.mg_heard.specs.declared.open_interval.OpenInterval.{OpenInterval}
use Rattle.mg_heard.proofs.ListenerRowLemmas.{told_row}
use Rattle.mg_heard.proofs.telling.tell_rows.Goals as goal

pub loop-row-preserved : goal.loop-row-preserved
loop-row-preserved g c start before told =
    let i = c.loop-row.row-index in
    let rows = c.args.rows.now in
    let r = c.row-item.result in
    let so_far = before ++ map (entry_until c.args.end) (intervals_of (take i rows)) in
    subst (λ (l : List Entry). g.S.Sink.told start c.tell_intervals.new.sink l)
    (ap (λ (l : List OpenInterval). so_far ++ map (entry_until c.args.end) l) c.as_slice.ensures.value
    ∙ told_row c.args.end before rows i r c.loop-row-test.true (sym c.row-item.is))
    (c.in_ok-tell_intervals.ensures.value start so_far (c.loop-row.invariant start before told))

pub returns : goal.returns
returns g c = record {
  value = λ start before told.
      subst (λ (l : List ListenerRow). g.S.Sink.told start c.loop-row.sink
      (before ++ map (entry_until c.args.end) (intervals_of l)))
      (take_all c.loop-row.row-index c.args.rows.now c.loop-row-test.false)
      (c.loop-row.invariant start before told);
}
