use Rattle.std.proofs.Common.{◌≤◌, ◌+◌, All, List, flat_map, get_or, length, map, take, sym, ap, subst, ◌∙◌, arith}
use Rattle.std.proofs.lemmas.List.{get_or_default, length-take-le, take_all}
use Rattle.mg_words.specs.Limits.{member_limit}
use Rattle.mg_rooms.specs.aids.Sound.{IsSound}
use Rattle.mg_rooms.proofs.SoundLemmas.{sound_if}
use Rattle.mg_heard.specs.aids.Hearers.{flows_heard, seats_of, AreHearers}
use Rattle.mg_heard.specs.aids.Opening.{beginning_at}
use Rattle.mg_heard.specs.declared.hearer.Hearer.{Hearer}
use Rattle.mg_heard.proofs.FillLemmas.{filled_more, filled_none, nobody}
use Rattle.mg_heard.proofs.HearerLemmas.{are_flows}
use Rattle.mg_heard.proofs.filling.fill_places.Goals as goal

pub loop-listener-init : goal.loop-listener-init
loop-listener-init c = record {
  within = omega arith;
  stored = filled_none (seats_of c.as_slice-hearers.result.now) c.args.first c.as_slice-hearers.result.now;
}

pub loop-listener-preserved : goal.loop-listener-preserved
loop-listener-preserved c =
    let hs = c.as_slice-hearers.result.now in
    let i = c.loop-listener.listener-index in
    let h = get_or hs i nobody in
    let there = c.loop-listener-test.true in
    let found = c.hearers_of-found.ensures in
    let fits = subst (λ (hs : List Hearer). All (λ h. length (flows_heard (seats_of hs) h) ≤ member_limit) hs)
    (sym c.as_slice-hearers.ensures.value) found.few i nobody there in
    let filled = c.loop-listener.invariant.stored in
    let few = filled.few in
    let room : c.loop-listener.count + length (flows_heard (seats_of hs) h) ≤ length c.loop-listener.places = omega (
      arith,
      few,
      fits,
      length-take-le c.loop-listener.count c.loop-listener.places c.loop-listener.invariant.within,
      ap length c.as_slice-hearers.ensures.value,
      found.many,
      c.requires.places,
      c.loop-listener.auto.places,
      there,
    ) in
    record {
      within = omega (arith, c.push_flows-count.ensures.within, c.push_flows-count.auto.places);
      stored = filled_more (seats_of hs) c.args.first (take c.loop-listener.count c.loop-listener.places)
          (take c.push_flows-count.result c.push_flows-count.new.places) hs i h fits there
          (get_or_default hs i h nobody there) (c.push_flows-count.ensures.value room) filled;
    }

pub returns : goal.returns
returns c = record {
  within = omega (arith, c.loop-listener.invariant.within, c.loop-listener.auto.places, c.requires.places);
  value = λ w stands.
      let hs = c.as_slice-hearers.result.now in
      let found = c.hearers_of-found.ensures in
      let hearers = subst (AreHearers w.gateway) (sym c.as_slice-hearers.ensures.value) (found.value w stands) in
      let sound = subst IsSound (sym stands.gateway.rooms) (sound_if c.args.core.now.state.engine.rooms found.consistent) in
      c.loop-listener.invariant.stored.is
      ∙ ap (λ (xs : List Hearer). map (beginning_at c.args.first) (flat_map (flows_heard (seats_of hs)) xs))
      (take_all c.loop-listener.listener-index hs c.loop-listener-test.false)
      ∙ ap (map (beginning_at c.args.first)) (are_flows w.gateway hs sound hearers);
}
