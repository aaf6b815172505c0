use Rattle.std.proofs.Common.{◌≡◌, ◌+◌, ℕ, map, take, drop, refl, ap, sym, ◌∙◌}
use Rattle.std.specs.Prelude.{slice_set}
use Rattle.mg_core.specs.declared.counts.Counts.{Counts}
use Rattle.mg_core.specs.World.{capped, one_more_at, result_place}
use Rattle.mg_core.proofs.CounterLemmas.{capped_once, others_first, raised, raised_after}
use Rattle.mg_core.proofs.counts.Counts.count_media.Goals as goal

pub returns-in-Dropped : goal.returns-in-Dropped
returns-in-Dropped c = record {
  counted = λ t is.
      let now = c.args.self.now in
      let k = c.cause_counter-place.result in
      let at : 5 + k ≡ result_place c.args.taken =
      c.cause_counter-place.ensures.value ∙ ap result_place (sym c.in-Dropped.is) in
      let dropped_is = ap (λ (x : Counts). x.dropped) is in
      let more : slice_set now.dropped k c.saturating_add-in-Dropped.result ≡ raised k (map capped (drop 5 t.results)) =
      rw (c.saturating_add-in-Dropped.ensures, dropped_is) refl in
      λ i. record {
        lines = ap (λ (x : Counts). x.lines) is i;
        control = ap (λ (x : Counts). x.control) is i;
        media = (c.saturating_add-self.ensures ∙ ap (λ (x : Counts). capped (x.media + 1)) is ∙
            sym (capped_once t.media)) i;
        ticks = ap (λ (x : Counts). x.ticks) is i;
        sent = ap (λ (x : Counts). x.sent) is i;
        failed = ap (λ (x : Counts). x.failed) is i;
        placed = (ap (λ (x : Counts). x.placed) is ∙ sym (others_first 5 k t.results) ∙
            ap (λ (n : ℕ). map capped (take 5 (one_more_at n t.results))) at) i;
        dropped = (more ∙ sym (raised_after 5 k t.results) ∙
            ap (λ (n : ℕ). map capped (drop 5 (one_more_at n t.results))) at) i;
        concealed = ap (λ (x : Counts). x.concealed) is i;
      };
}
