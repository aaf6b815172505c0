use Rattle.mg_engine.proofs.Common.{◌≢◌, ℕ, ◌<◌, ◌+◌, ◌*◌, get_or, length, inl, inr, refl, ap, ◌∙◌, arith, cases_eq, frame_played, is_concealing, slot_played, from_bool}
use Rattle.mg_engine.proofs.ConcealLemmas.{counted_more}
use Rattle.mg_engine.proofs.WorkLemmas.{rises_twice, stays}
use Rattle.mg_engine.proofs.engine.play_slots.Goals as goal

pub loop-slot-init : goal.loop-slot-init
loop-slot-init c = record {
  long = refl;
  done = λ j lt. absurd (omega (arith, lt));
  rest = λ j from lt. refl;
  rooms = refl;
  concealed = refl;
  work = stays 0 c.args.sums.now.work c.args.sums.now.work refl;
}

pub loop-slot-preserved : goal.loop-slot-preserved
loop-slot-preserved c =
    let held = c.args.held.now in
    let i = c.loop-slot.slot-index in
    let first = c.args.media.now.items in
    let slot = get_or held i 0 in
    let here : i < length held = c.loop-slot-test.true in
    let apart : (j : ℕ) → j < length held → j ≢ i → get_or held j 0 ≢ slot =
    λ j lt ne same. ne (c.requires.apart j i lt here same) in
    let played = c.play.ensures.played in
    let old = c.loop-slot.invariant.rest i (omega arith) here in
    record {
      long = c.play.ensures.long ∙ c.loop-slot.invariant.long;
      done = λ j lt. elim (cases_eq j i) [
        | inl same ↦ rw same (record {
          ticked = played.ticked ∙ ap slot_played old;
          frame = played.frame ∙ ap frame_played old;
        })
        | inr other ↦
            (let less : j < i = omega (arith, lt, other) in
            let kept = c.play.ensures.others (get_or held j 0) (apart j (omega (arith, less, here)) other) in
            let done = c.loop-slot.invariant.done j less in
            record { ticked = kept.0 ∙ done.ticked; frame = kept.1 ∙ done.frame })
      ];
      rest = λ j from lt. (c.play.ensures.others (get_or held j 0) (apart j lt (omega (arith, from)))).0 ∙
          c.loop-slot.invariant.rest j (omega (arith, from)) lt;
      rooms = c.play.ensures.rooms ∙ c.loop-slot.invariant.rooms;
      concealed = ap (λ (n : ℕ). c.loop-slot.concealed + n) c.from-concealed.ensures
          ∙ ap (λ (n : ℕ). n + from_bool c.play.result) c.loop-slot.invariant.concealed
          ∙ counted_more first held i c.play.result here (c.play.ensures.concealed ∙ ap is_concealing old);
      work = rises_twice (2 * i) 2 (2 * (i + 1)) c.args.sums.now.work c.loop-slot.sums.work c.play.new.sums.work
          (omega arith) c.loop-slot.invariant.work c.play.ensures.work;
    }
