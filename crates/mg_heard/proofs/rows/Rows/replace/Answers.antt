use Rattle.std.proofs.Common.{◌≡◌, List, length, map, take, sym, ap, subst, ◌∙◌}
use Rattle.mg_heard.specs.aids.Hearers.{flows_among}
use Rattle.mg_heard.specs.aids.Opening.{beginning_at, continued, without_flows}
use Rattle.mg_heard.specs.aids.Rows.{AreRows, intervals_of}
use Rattle.mg_heard.specs.declared.listener_row.ListenerRow.{ListenerRow}
use Rattle.mg_heard.proofs.ContinueLemmas.{written}
use Rattle.mg_heard.proofs.rows.Rows.replace.Goals as goal

pub advance_front-requires-clause-rows : goal.advance_front-requires-clause-rows
advance_front-requires-clause-rows c = subst AreRows
    (sym (ap (take c.old.inside.len) c.deref_mut-2.ensures.value ∙ c.old.view_is)) c.requires.rows

pub returns : goal.returns
returns c =
    let hs = c.args.hearers.now in
    let n = length hs in
    let vec = c.self.inside.places in
    let other = c.old.inside.places in
    let len = c.old.inside.len in
    let first = c.deref_mut-2.ensures.value in
    let old : take len c.deref_mut-2.result.now ≡ c.args.old.now = ap (take len) first ∙ c.old.view_is in
    let rows = written vec.len vec.items c.advance_front.new.rows vec.ok.0
    (c.advance_front.auto.rows ∙ ap length c.deref_mut.ensures.value) in
    let rest = written other.len other.items c.advance_front.new.old other.ok.0
    (c.advance_front.auto.old ∙ ap length first) in
    record {
      rows = subst AreRows (ap (take n) (sym rows)) c.advance_front.ensures.rows;
      value = ap (λ (l : List ListenerRow). intervals_of (take n l)) rows ∙ c.advance_front.ensures.value
          ∙ ap (λ (l : List ListenerRow). map (continued (intervals_of l))
          (map (beginning_at c.args.now) (flows_among hs))) old;
      ended = ap (λ (l : List ListenerRow). intervals_of (take len l)) rest ∙ c.advance_front.ensures.ended
          ∙ ap (λ (l : List ListenerRow). without_flows (flows_among hs) (intervals_of l)) old;
    }
