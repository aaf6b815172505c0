use Rattle.std.proofs.Common.{ℕ, ◌+◌, ◌<◌, List, get_or, length, set, sym, subst, arith}
use Rattle.std.proofs.lemmas.List.{get_or_default}
use Rattle.mg_heard.specs.aids.Rows.{intervals_of}
use Rattle.mg_heard.specs.declared.listener_row.ListenerRow.{ListenerRow}
use Rattle.mg_heard.proofs.FillLemmas.{nobody}
use Rattle.mg_heard.proofs.RowLemmas.{start_rising}
use Rattle.mg_heard.proofs.ListenerRowLemmas.{Renews, all_renewed, are_rows, earlier_rising, renewed_ended, renews_changed, renews_kept, renews_start, rows_value, same_length}
use Rattle.mg_heard.proofs.rows.renew_rows.Goals as goal
use Rattle.mg_heard.proofs.rows.renew_rows.Goals.{then-rows-place, else-rows-place}

pub loop-place-init : goal.loop-place-init
loop-place-init c = renews_start c.args.rows.now c.args.ended.now c.args.hearers.now c.args.now

pub renew-requires-clause-old : goal.renew-requires-clause-old
renew-requires-clause-old c =
    let first = c.args.rows.now in
    let j = c.loop-place.place in
    let d = c.index-rows-place-then-rows-place.result in
    earlier_rising first (get_or c.loop-place.rows j d) j d c.requires.rows
    (omega (arith, c.loop-place-test.true, same_length first c.args.hearers.now c.requires.same))
    (c.loop-place.invariant.has_kept j d (omega arith))

pub renew-requires-clause-new : goal.renew-requires-clause-new
renew-requires-clause-new c =
    start_rising c.args.hearers.now (get_or c.args.hearers.now c.loop-place.place nobody) c.args.now c.requires.rising

pub loop-place-preserved : goal.loop-place-preserved
loop-place-preserved c =
    let first = c.args.rows.now in
    let rows = c.loop-place.rows in
    let ended = c.loop-place.ended in
    let hs = c.args.hearers.now in
    let now = c.args.now in
    let j = c.loop-place.place in
    let n = c.loop-place.changed in
    let h = get_or hs j nobody in
    let there = c.loop-place-test.true in
    let a = c.loop-place.invariant in
    let within : j < length rows = omega (arith, there, same_length first hs c.requires.same, c.loop-place.auto.rows) in
    let room : n < length ended = omega (arith, there, a.few, c.requires.room, c.loop-place.auto.ended) in
    let is = get_or_default hs j h nobody there in
    elim c.if-rows-place.branch [
      | then-rows-place w ↦
          let y = w.renew.new.self in
          let z = w.renew.new.ended in
          let step = renews_changed first rows ended hs now j n h w.index-rows-place-then-rows-place.result y z
          c.requires.rows c.requires.rising c.requires.same there within room is a w.renew.ensures.listener
          w.renew.ensures.row w.renew.ensures.ended in
          subst (λ (m : ℕ). Renews first c.if-rows-place.rows c.if-rows-place.ended hs now (j + 1) m) (sym w.changed-is)
          (subst (λ (l : List ListenerRow). Renews first c.if-rows-place.rows l hs now (j + 1) (n + 1)) (sym w.ended-is)
          (subst (λ (l : List ListenerRow). Renews first l (set ended n z) hs now (j + 1) (n + 1)) (sym w.rows-is) step))
      | else-rows-place w ↦
          let step = renews_kept first rows ended hs now j n h c.index-rows-place.result c.requires.rows c.requires.rising
          c.requires.same there within is a w.if-rows-place.false in
          subst (λ (m : ℕ). Renews first c.if-rows-place.rows c.if-rows-place.ended hs now (j + 1) m) (sym w.changed-is)
          (subst (λ (l : List ListenerRow). Renews first c.if-rows-place.rows l hs now (j + 1) n) (sym w.ended-is)
          (subst (λ (l : List ListenerRow). Renews first l ended hs now (j + 1) n) (sym w.rows-is) step))
    ]

pub returns : goal.returns
returns c =
    let first = c.args.rows.now in
    let hs = c.args.hearers.now in
    let now = c.args.now in
    let j = c.loop-place.place in
    let past = c.loop-place-test.false in
    let a = c.loop-place.invariant in
    let all = all_renewed first c.loop-place.rows c.loop-place.ended hs now j c.loop-place.changed c.requires.same
    c.loop-place.auto.rows past a in
    record {
      within = omega (arith, a.few, a.within);
      rows = are_rows (intervals_of first) c.loop-place.rows hs now c.requires.rising all;
      value = rows_value (intervals_of first) c.loop-place.rows hs now all;
      ended = renewed_ended first c.loop-place.rows c.loop-place.ended hs now j c.loop-place.changed c.requires.same past a;
    }
