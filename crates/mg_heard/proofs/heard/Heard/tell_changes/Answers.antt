use Rattle.std.proofs.Common.{List, map, ap, sym, subst, ◌∙◌}
use Rattle.mg_heard.specs.OpenFlows.{open_flows}
use Rattle.mg_heard.specs.Times.{tick_count}
use Rattle.mg_heard.specs.aids.Opening.{ended_at}
use Rattle.mg_heard.specs.aids.Rows.{intervals_of}
use Rattle.mg_heard.specs.aids.Timing.{AreBegun}
use Rattle.mg_heard.specs.declared.listener_row.ListenerRow.{ListenerRow}
use Rattle.mg_heard.proofs.KeptTickLemmas.{timed_ended_on}
use Rattle.mg_heard.proofs.heard.Heard.tell_changes.Goals as goal

pub returns-clause-value : goal.returns-clause-value
returns-clause-value g c w past older start stands is tick h =
    let old = c.args.self.now in
    let over = c.as_slice.ensures.value in
    let moment = c.now-now.ensures.value older is in
    let (lasts, ends) = c.advance.ensures.value w past stands (c.now-now.ensures.tick ∙ tick) h.tells.lasts in
    let (begun, over_begun) = c.advance.ensures.begun older moment h.begun in
    timed_ended_on older past (open_flows w.gateway) c.now-now.result old.open c.advance.new.self
    (intervals_of c.as_slice.result.now) (g.S.Sink.told start old.sink) (g.S.Sink.told start c.tell_rows.new.sink)
    c.tell_rows.result moment lasts
    (ap (λ (l : List ListenerRow). map (ended_at c.now-now.result.tick) (intervals_of l)) over ∙ ends) begun
    (subst (λ (l : List ListenerRow). AreBegun older (tick_count older) (intervals_of l)) (sym over) over_begun)
    (c.tell_rows.ensures.value start) h
