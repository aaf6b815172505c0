use Rattle.std.proofs.Common.{◌≡◌, ◌+◌, List, map, sym, ap, subst, ◌∙◌}
use Rattle.mg_heard.specs.aids.Opening.{IsRising, beginning_at, continued, flows_of, without_flows}
use Rattle.mg_heard.specs.Times.{tick_count}
use Rattle.mg_heard.specs.aids.Timing.{AreBegun}
use Rattle.mg_heard.specs.declared.open_interval.OpenInterval.{OpenInterval}
use Rattle.mg_heard.proofs.AdvanceLemmas.{advanced, new_rising}
use Rattle.mg_heard.proofs.BegunLemmas.{begun_continued, begun_without}
use Rattle.mg_heard.proofs.open_intervals.OpenIntervals.advance_to.Goals as goal

pub returns : goal.returns
returns c =
    let filled = c.replace.new.self in
    let new = c.continue_from.new.self in
    let ended = c.remove_continued.new.self in
    let flows = c.args.flows.now in
    let swapped = c.swap.ensures.y_after in
    record {
      value = λ past up tick lasting.
          let value = c.replace.ensures.value in
          advanced past c.args.now flows c.args.self.now filled new ended tick lasting value
          (subst IsRising (sym value) up)
          (subst (λ (l : List OpenInterval). IsRising filled → IsRising l → new ≡ map (continued l) filled) swapped
          c.continue_from.ensures.value)
          (subst (λ (l : List OpenInterval). IsRising l → IsRising new → ended ≡ without_flows (flows_of new) l) swapped
          c.remove_continued.ensures.value);
      begun = λ older up rising is begun.
          let value = c.replace.ensures.value in
          let before = c.args.self.now in
          let old : IsRising c.swap.new.y = subst IsRising (sym swapped) rising in
          let next : new ≡ map (continued before) (map (beginning_at c.args.now) flows) =
          c.continue_from.ensures.value (subst IsRising (sym value) up) old
          ∙ (λ i. map (continued (swapped i)) (value i)) in
          let over : ended ≡ without_flows (flows_of new) before =
          c.remove_continued.ensures.value old (subst IsRising (sym next) (new_rising before _ up))
          ∙ ap (without_flows (flows_of new)) swapped in (
            subst (AreBegun older (tick_count older + 1)) (sym next)
                (begun_continued older c.args.now before flows is begun),
            subst (AreBegun older (tick_count older)) (sym over)
                (begun_without older (tick_count older) (flows_of new) before begun),
          );
    }
