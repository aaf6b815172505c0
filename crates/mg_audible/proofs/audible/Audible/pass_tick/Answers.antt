use Rattle.std.proofs.Common.{◌≡◌, ◌∷◌, List, map, reverse, sym, ap, subst, ◌∙◌}
use Rattle.mg_rooms.specs.Consistent.{IsConsistent}
use Rattle.mg_heard.specs.Intervals.{ending}
use Rattle.mg_heard.specs.Times.{tick_count}
use Rattle.mg_heard.specs.aids.Opening.{AreLasting, IsRising, beginning_at, ended_at}
use Rattle.mg_heard.specs.aids.Timing.{AreBegun}
use Rattle.mg_heard.specs.declared.open_flow.OpenFlow.{OpenFlow}
use Rattle.mg_heard.specs.declared.open_interval.OpenInterval.{OpenInterval}
use Rattle.mg_audible.specs.Audible.{audible_flows}
use Rattle.mg_audible.proofs.FlowLemmas.{flows_rising}
use Rattle.mg_audible.proofs.KeepLemmas.{timed_tick}
use Rattle.mg_audible.proofs.audible.Audible.pass_tick.Goals as goal

pub returns-in-Ok : goal.returns-in-Ok
returns-in-Ok g c = record {
  value = λ start base notes h.
      let old = c.args.self.now in
      let now = c.now-now.result in
      let older = reverse notes in
      let talker = old.pair.talker in
      let pair = c.tick-flows.new.self in
      let keeps = h.keeps in
      let flows = audible_flows talker keeps.v keeps.w in
      let moment = c.now-now.ensures.value older h.clock_is in
      let (are, stand) = c.tick-flows.ensures.value keeps.v keeps.w keeps.stand in
      let slice : c.as_slice.result.now ≡ flows = c.as_slice.ensures.value ∙ are in
      let consistent = subst IsConsistent (sym stand.whole.gateway.rooms) c.tick-flows.ensures.consistent in
      let rising = subst (λ (l : List OpenFlow). IsRising (map (beginning_at now) l)) (sym slice)
      (flows_rising talker keeps.v keeps.w now consistent) in
      let (lasts, ends) = subst (λ (l : List OpenFlow). AreLasting (l ∷ keeps.past) c.advance_to.new.self
      × (map (ended_at now.tick) c.advance_to.new.ended ≡ ending keeps.past l)) slice
      (c.advance_to.ensures.value keeps.past rising (c.now-now.ensures.tick ∙ keeps.count) keeps.tells.lasts) in
      let (begun, over_begun) = c.advance_to.ensures.begun older rising keeps.tells.lasts.0 moment h.begun in
      let over = c.as_slice-2.ensures.value in
      timed_tick base talker notes old.pair.whole.state old.pair.without.state pair.whole.state pair.without.state
      old.clock c.pass_ticks.new.self now old.open c.advance_to.new.self c.as_slice-2.result.now
      (g.S.Sink.told start old.sink) (g.S.Sink.told start c.tell_audible.new.sink) c.in-Ok.ensures.ticks
      (c.in-Ok.ensures.value older h.clock_is) moment h stand lasts
      (ap (λ (l : List OpenInterval). map (ended_at now.tick) l) over ∙ ends) begun
      (subst (AreBegun older (tick_count older)) (sym over) over_begun) (c.in_ok-tell_audible.ensures.value start);
  talker = c.tick-flows.ensures.talker;
}
