use Rattle.std.proofs.Common.{◌≡◌, ◌+◌, ◌++◌, ◌<◌, List, map, true, get_or, length, take, sym, ap, subst, ◌∙◌, arith}
use Rattle.std.proofs.lemmas.List.{get_or_default, length-take-le, take_all}
use Rattle.mg_heard.specs.aids.Hearers.{flows_heard, is_heard, seats_of}
use Rattle.mg_heard.specs.aids.Opening.{beginning_at}
use Rattle.mg_heard.specs.declared.hearer.Hearer.{Hearer}
use Rattle.mg_heard.specs.declared.open_interval.OpenInterval.{OpenInterval}
use Rattle.mg_heard.proofs.FillLemmas.{HasPushed, has_place, nobody, pushed_none, pushed_not, pushed_one}
use Rattle.mg_heard.proofs.filling.push_flows.Goals as goal
use Rattle.mg_heard.proofs.filling.push_flows.Goals.{then-hears, else-hears}

pub loop-hearer-init : goal.loop-hearer-init
loop-hearer-init c = record {
  within = c.requires.within;
  stored = λ room. pushed_none c.args.listener.now c.args.first (take c.args.count c.args.places.now) c.args.hearers.now;
}

pub loop-hearer-preserved : goal.loop-hearer-preserved
loop-hearer-preserved c = record {
  within = elim c.if-hears.branch [
    | then-hears v ↦ omega (arith, v.put-count.ensures.within, v.count-is, c.if-hears.auto.places)
    | else-hears v ↦ omega (arith, c.loop-hearer.invariant.within, v.count-is, c.if-hears.auto.places)
  ];
  stored = λ room.
      let l = c.args.listener.now in
      let first = c.args.first in
      let hs = c.args.hearers.now in
      let i = c.loop-hearer.hearer-index in
      let h = get_or hs i nobody in
      let there = c.loop-hearer-test.true in
      let is = get_or_default hs i h nobody there in
      let start = take c.args.count c.args.places.now in
      let stored = take c.loop-hearer.count c.loop-hearer.places in
      let new = take c.if-hears.count c.if-hears.places in
      let pushed = c.loop-hearer.invariant.stored room in
      let value = c.hears.ensures.value in
      elim c.if-hears.branch [
        | then-hears v ↦
            let heard : is_heard l h.seated ≡ true = sym value ∙ v.if-hears.true in
            let long = length-take-le c.args.count c.args.places.now c.requires.within in
            let space = has_place l first start stored hs i (length c.args.places.now) h there is heard
            (omega (arith, room, long)) pushed in
            let count = length-take-le c.loop-hearer.count c.loop-hearer.places c.loop-hearer.invariant.within in
            let less : c.loop-hearer.count < length c.loop-hearer.places =
            omega (arith, space, count, c.loop-hearer.auto.places) in
            let e : new ≡ take v.put-count.result v.put-count.new.places = λ j. take (v.count-is j) (v.places-is j) in
            pushed_one l first start stored new hs i h v.flow_to-flow.result there is heard
            v.flow_to-flow.ensures.parties (e ∙ (v.put-count.ensures.value less).1) pushed
        | else-hears v ↦
            let e : new ≡ stored = λ j. take (v.count-is j) (v.places-is j) in
            subst (λ (s : List OpenInterval). HasPushed l first start s hs (i + 1)) (sym e)
            (pushed_not l first start stored hs i h there is (sym value ∙ v.if-hears.false) pushed)
      ];
}

pub returns : goal.returns
returns c = record {
  within = omega (arith, c.loop-hearer.invariant.within, c.loop-hearer.auto.places);
  value = λ room.
      let all = take_all c.loop-hearer.hearer-index c.args.hearers.now c.loop-hearer-test.false in
      (c.loop-hearer.invariant.stored room).is
      ∙ ap (λ (hs : List Hearer). take c.args.count c.args.places.now
      ++ map (beginning_at c.args.first) (flows_heard (seats_of hs) c.args.listener.now)) all;
}
