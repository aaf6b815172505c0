use Rattle.std.proofs.Common.{ℕ, refl, drop, arith, ◌*◌, ◌∙◌, ap}
use Rattle.std.proofs.lemmas.List.{drop-drop}
use Rattle.mg_core.proofs.ResumedBytesLemmas.{eight_more}
use Rattle.mg_core.proofs.resumer.leading_tens.Goals as goal

pub loop-next-init : goal.loop-next-init
loop-next-init c = record { ticks = refl; rest = refl; within = omega arith }

pub loop-next-preserved : goal.loop-next-preserved
loop-next-preserved c =
    let text = c.args.text.now in
    let n = c.loop-next.count in
    let h = rw (c.in-Some.is, c.as_slice.ensures) at c.strip_prefix.ensures.cases in
    record {
      ticks = eight_more n text c.loop-next.rest.now c.in-Some.next.now c.loop-next.invariant.ticks h.0 h.1;
      rest = h.1 ∙ ap (drop 72) c.loop-next.invariant.rest ∙ drop-drop 72 (9 * n) text ∙
          ap (λ (k : ℕ). drop k text) (omega arith);
      within = omega (arith, h.2, c.loop-next.invariant.within);
    }
