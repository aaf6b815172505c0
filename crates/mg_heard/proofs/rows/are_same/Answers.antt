use Rattle.std.proofs.Common.{◌<◌, List, get_or, length, sym, ap, ◌∙◌, arith}
use Rattle.std.proofs.lemmas.List.{get_or_default, take_all}
use Rattle.mg_heard.specs.aids.Hearers.{seats_of}
use Rattle.mg_heard.specs.aids.Rows.{listeners_of}
use Rattle.mg_heard.specs.declared.listener_row.ListenerRow.{ListenerRow}
use Rattle.mg_heard.proofs.FillLemmas.{nobody}
use Rattle.mg_heard.proofs.ListenerRowLemmas.{same_more}
use Rattle.mg_heard.proofs.SameLemmas.{same_seated}
use Rattle.mg_heard.proofs.rows.are_same.Goals as goal

pub loop-place-preserved : goal.loop-place-preserved
loop-place-preserved c =
    let rows = c.args.rows.now in
    let hs = c.args.hearers.now in
    let i = c.loop-place.place in
    let r = get_or rows i c.index-rows-place.result in
    let below = c.loop-place-test.true in
    let h = get_or hs i nobody in
    let within : i < length hs = omega (arith, c.loop-place-test.true, c.if-rows-hearers.false) in
    same_more rows hs i r h below within (get_or_default rows i r c.index-rows-place.result below)
    (get_or_default hs i h nobody within)
    (same_seated r.listener.seated h.seated (sym c.is_same.ensures.value ∙ c.if-not-is_same.false)) c.loop-place.invariant

pub returns : goal.returns
returns c =
    let rows = c.args.rows.now in
    let hs = c.args.hearers.now in
    let i = c.loop-place.place in
    record {
      value = λ yes.
          ap (λ (l : List ListenerRow). seats_of (listeners_of l)) (sym (take_all i rows c.loop-place-test.false))
          ∙ c.loop-place.invariant
          ∙ ap seats_of (take_all i hs (omega (arith, c.loop-place-test.false, c.if-rows-hearers.false)));
    }
