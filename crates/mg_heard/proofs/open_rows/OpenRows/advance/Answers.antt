use Rattle.std.proofs.Common.{◌≡◌, ◌≤◌, ◌+◌, All, List, length, map, refl, sym, ap, subst, ◌∙◌}
use Rattle.mg_words.specs.Limits.{member_limit}
use Rattle.mg_rooms.specs.Consistent.{IsConsistent}
use Rattle.mg_rooms.proofs.SoundLemmas.{sound_if}
use Rattle.mg_heard.specs.OpenFlows.{open_flows}
use Rattle.mg_heard.specs.aids.Hearers.{AreHearers, AreRising, flows_among, flows_heard, seats_of}
use Rattle.mg_heard.specs.aids.Opening.{beginning_at, continued, flows_of, without_flows}
use Rattle.mg_heard.specs.Times.{tick_count}
use Rattle.mg_heard.specs.aids.Rows.{intervals_of}
use Rattle.mg_heard.specs.aids.Timing.{AreBegun}
use Rattle.mg_heard.specs.declared.hearer.Hearer.{Hearer}
use Rattle.mg_heard.specs.declared.open_flow.OpenFlow.{OpenFlow}
use Rattle.mg_heard.proofs.AdvanceLemmas.{advanced, new_flows}
use Rattle.mg_heard.proofs.BegunLemmas.{begun_continued, begun_without}
use Rattle.mg_heard.proofs.FillLemmas.{filled_rising}
use Rattle.mg_heard.proofs.HearerLemmas.{are_flows}
use Rattle.mg_heard.proofs.open_rows.OpenRows.advance.Goals as goal

pub advance-requires-clause-few : goal.advance-requires-clause-few
advance-requires-clause-few c = subst (λ (hs : List Hearer).
    All (λ h. length (flows_heard (seats_of hs) h) ≤ member_limit) hs) (sym c.as_slice.ensures.value)
    c.hearers_of-hearers.ensures.few

pub advance-requires-clause-rising : goal.advance-requires-clause-rising
advance-requires-clause-rising c = subst AreRising (sym c.as_slice.ensures.value) c.hearers_of-hearers.ensures.rising

pub returns : goal.returns
returns c =
    let hs = c.as_slice.result.now in
    let now = c.args.now in
    let old = c.args.self.now in
    let found = c.hearers_of-hearers.ensures in
    let same : intervals_of c.self.inside.rows ≡ old = c.self.view_is in
    record {
      value = λ w past stands tick lasting.
          let consistent = subst IsConsistent (sym stands.gateway.rooms) found.consistent in
          let hearers = subst (AreHearers w.gateway) (sym c.as_slice.ensures.value) (found.value w stands) in
          let next = open_flows w.gateway in
          let flows = are_flows w.gateway hs (sound_if w.gateway.rooms consistent) hearers in
          let filled = map (beginning_at now) next in
          let value : intervals_of c.advance.new.self ≡ map (continued old) filled =
          c.advance.ensures.value ∙ (λ i. map (continued (same i)) (map (beginning_at now) (flows i))) in
          let ended : intervals_of c.advance.new.ended ≡ without_flows (flows_of (intervals_of c.advance.new.self)) old =
          c.advance.ensures.ended ∙ (λ i. without_flows (flows i) (same i))
          ∙ ap (λ (l : List OpenFlow). without_flows l old) (sym (ap flows_of value ∙ new_flows old now next)) in
          advanced past now next old filled (intervals_of c.advance.new.self) (intervals_of c.advance.new.ended) tick lasting
          refl (filled_rising w.gateway now filled consistent refl) (λ up rising. value) (λ up rising. ended);
      begun = λ older is before.
          let begun = subst (AreBegun older (tick_count older)) (sym same) before in (
            subst (AreBegun older (tick_count older + 1)) (sym c.advance.ensures.value)
                (begun_continued older now (intervals_of c.self.inside.rows) (flows_among hs) is begun),
            subst (AreBegun older (tick_count older)) (sym c.advance.ensures.ended)
                (begun_without older (tick_count older) (flows_among hs) (intervals_of c.self.inside.rows) begun),
          );
    }
