use Rattle.std.proofs.Common.{◌≡◌, ℕ, ◌∷◌, ◌++◌, [], ◌<◌, List, get_or, length, map, take, sym, ap, ◌∙◌, arith}
use Rattle.std.proofs.lemmas.List.{map_push, take_all, take_more, take_more_set}
use Rattle.mg_heard.specs.aids.Opening.{beginning_at}
use Rattle.mg_heard.specs.declared.open_interval.OpenInterval.{OpenInterval}
use Rattle.mg_heard.proofs.ContinueLemmas.{unused}
use Rattle.mg_heard.proofs.filling.put_flows.Goals as goal

pub loop-place-preserved : goal.loop-place-preserved
loop-place-preserved c =
    let flows = c.args.flows.now in
    let i = c.loop-place.place in
    let x = get_or flows i unused.flow in
    let there : i < length flows = omega arith in
    let within : i < length c.loop-place.places = omega (arith, c.requires, c.loop-place.auto.places) in
    take_more_set c.loop-place.places i (beginning_at c.args.first x) within
    ∙ ap (λ (l : List OpenInterval). l ++ beginning_at c.args.first x ∷ []) c.loop-place.invariant
    ∙ sym (map_push (beginning_at c.args.first) (take i flows) x)
    ∙ ap (map (beginning_at c.args.first)) (sym (take_more flows i unused.flow there))

pub returns : goal.returns
returns c =
    let flows = c.args.flows.now in
    let i = c.loop-place.place in
    let all : i ≡ length flows = omega (arith, c.loop-place-test.false, c.loop-place.auto.place-end) in
    record {
      value = ap (λ (n : ℕ). take n c.loop-place.places) (sym all) ∙ c.loop-place.invariant
          ∙ ap (map (beginning_at c.args.first)) (take_all i flows c.loop-place-test.false);
    }
