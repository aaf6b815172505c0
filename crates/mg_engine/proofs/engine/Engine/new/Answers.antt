use Rattle.mg_engine.proofs.Common.{ℕ, length, map, sym, ap, ◌∙◌, sound_if, place_count, SumsState, Registry, length-replicate}
use Rattle.mg_sums.specs.aids.Sums.{first_sums}
use Rattle.mg_engine.proofs.JoinedLemmas.{joined_nowhere}
use Rattle.mg_engine.proofs.MemberLemmas.{has_nobody, nobody_seated}
use Rattle.mg_engine.proofs.engine.Engine.new.Goals as goal

pub invariant_of-result : goal.invariant_of-result
invariant_of-result c = record {
  sound = sound_if _ c.in_ok-rooms.ensures.consistent;
  limits = ap (λ (w : Registry). w.limits) c.in_ok-rooms.ensures.start ∙ c.limits.ensures.value;
  media = ap length c.in_ok-media.ensures.value ∙ length-replicate _ _;
  held = c.new-2.ensures ∙ ap (λ (w : Registry). map (λ r. r.slot) w.terminations)
      (sym c.in_ok-rooms.ensures.start);
  members = has_nobody c.in_ok-rooms.rooms c.limits.result c.in_ok-flows.flows c.in_ok-rooms.ensures.start
      c.in_ok-flows.ensures.flows;
  seats = nobody_seated c.in_ok-rooms.rooms c.limits.result c.in_ok-flows.seating c.in_ok-rooms.ensures.start;
  places = ap length c.in_ok-flows.ensures.seating ∙ length-replicate {A = ℕ} place_count 0;
  joined = joined_nowhere c.in_ok-rooms.rooms c.limits.result c.in_ok-flows.sums.rooms c.in_ok-rooms.ensures.start
      c.in_ok-flows.ensures.nowhere;
  row_count = c.in_ok-flows.ensures.valid.rooms;
}

pub returns-clause-work : goal.returns-clause-work
unfolding first_sums
returns-clause-work c = ap (λ (s : SumsState). s.work) c.in_ok-flows.ensures.first
