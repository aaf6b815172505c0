use Rattle.std.proofs.Common.{◌+◌, ◌<◌, List, get_or, length, set, sym, subst, arith}
use Rattle.std.proofs.lemmas.List.{get_or_default}
use Rattle.mg_heard.specs.aids.Rows.{intervals_of}
use Rattle.mg_heard.specs.declared.listener_row.ListenerRow.{ListenerRow}
use Rattle.mg_heard.proofs.FillLemmas.{nobody}
use Rattle.mg_heard.proofs.RowLemmas.{start_rising}
use Rattle.mg_heard.proofs.ListenerRowLemmas.{Advances, advances_found, advances_new, advances_start, all_ended, all_rows, are_rows, at_first, earlier_rising, rows_value}
use Rattle.mg_heard.proofs.rows.advance_rows.Goals as goal
use Rattle.mg_heard.proofs.rows.advance_rows.Goals.{in-Some, in-None}

pub loop-place-init : goal.loop-place-init
loop-place-init c = advances_start c.args.old.now c.args.rows.now c.args.hearers.now c.args.now

pub advance-requires-clause-old : goal.advance-requires-clause-old
advance-requires-clause-old c =
    let first = c.args.old.now in
    let hs = c.args.hearers.now in
    let j = c.loop-place.place in
    let k = c.in-Some.earlier in
    let d = c.index-old-earlier.result in
    let a = c.loop-place.invariant in
    let (inside, number) = c.in-Some.ensures.some in
    let below : k < length first = omega (arith, inside, a.long) in
    earlier_rising first (get_or c.loop-place.old k d) k d c.requires.rows below
    (at_first first c.loop-place.old c.loop-place.rows hs c.args.now j k (get_or hs j nobody) d c.requires.rising
    c.loop-place-test.true (get_or_default hs j _ nobody c.loop-place-test.true) a below (number d))

pub advance-requires-clause-new : goal.advance-requires-clause-new
advance-requires-clause-new c =
    start_rising c.args.hearers.now (get_or c.args.hearers.now c.loop-place.place nobody) c.args.now c.requires.rising

pub loop-place-preserved : goal.loop-place-preserved
loop-place-preserved c =
    let first = c.args.old.now in
    let old = c.loop-place.old in
    let rows = c.loop-place.rows in
    let hs = c.args.hearers.now in
    let now = c.args.now in
    let j = c.loop-place.place in
    let h = get_or hs j nobody in
    let there = c.loop-place-test.true in
    let within : j < length rows = omega (arith, there, c.requires.room, c.loop-place.auto.rows) in
    let is = get_or_default hs j h nobody there in
    let a = c.loop-place.invariant in
    elim c.match-place_of.branch [
      | in-Some w ↦
          let k = w.in-Some.earlier in
          let d = w.index-old-earlier.result in
          let (inside, number) = w.in-Some.ensures.some in
          let below : k < length first = omega (arith, inside, a.long) in
          let step = advances_found first old rows hs now j k h d w.advance.new.self w.advance.new.earlier
          c.requires.rows c.requires.rising there within is a below (number d) w.advance.ensures.listener
          w.advance.ensures.row w.advance.ensures.earlier w.advance.ensures.ended in
          subst (λ (l : List ListenerRow). Advances first l c.match-place_of.rows hs now (j + 1)) (sym w.old-is)
          (subst (λ (l : List ListenerRow). Advances first (set old k w.advance.new.earlier) l hs now (j + 1))
          (sym w.rows-is) step)
      | in-None w ↦
          let step = advances_new first old rows hs now j h w.start.new.self c.requires.rows there within is a
          w.in-None.ensures.none w.start.ensures.listener w.start.ensures.row in
          subst (λ (l : List ListenerRow). Advances first l c.match-place_of.rows hs now (j + 1)) (sym w.old-is)
          (subst (λ (l : List ListenerRow). Advances first old l hs now (j + 1)) (sym w.rows-is) step)
    ]

pub returns : goal.returns
returns c =
    let first = c.args.old.now in
    let hs = c.args.hearers.now in
    let now = c.args.now in
    let past = c.loop-place-test.false in
    let a = c.loop-place.invariant in
    let all = all_rows first c.loop-place.old c.loop-place.rows hs now c.loop-place.place c.requires.rising past a in
    record {
      rows = are_rows (intervals_of first) _ hs now c.requires.rising all;
      value = rows_value (intervals_of first) _ hs now all;
      ended = all_ended first c.loop-place.old c.loop-place.rows hs now c.loop-place.place c.requires.rows past a;
    }
