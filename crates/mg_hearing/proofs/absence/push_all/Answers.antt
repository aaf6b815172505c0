use Rattle.std.proofs.Common.{◌∙◌, ◌++◌, ◌<◌, ap, append-nil, arith, false, length, sym, List, ℕ}
use Rattle.mg_hearing.proofs.AbsenceLemmas.{absences_done, absences_more}
use Rattle.mg_hearing.proofs.absence.push_all.Goals as goal

pub loop-place-preserved : goal.loop-place-preserved
loop-place-preserved c =
    let rules = c.args.rules.now in
    let missing = c.args.missing.now in
    let i = c.loop-place.place in
    let there : i < length rules = omega (arith, c.loop-place-test.true, c.min-place-end.ensures) in
    let within : i < length missing = omega (arith, c.loop-place-test.true, c.min-place-end.ensures) in
    rw (c.in_ok-push_line-2.ensures.value, c.in_ok-push_line.ensures.value)
    (absences_more c.args.name.now rules missing i c.index-rules-place.result (record { talker = false; listener = false })
    c.loop-place.text.items _ there within (sym c.index-rules-place.is) c.loop-place.invariant)

pub returns : goal.returns
returns c =
    let text = c.loop-place.text.items in
    let reached = rw c.min-place-end.ensures at c.loop-place-test.false in
    let over = absences_done c.args.name.now c.args.rules.now c.args.missing.now c.loop-place.place reached in
    record { value = sym (ap (λ (rest : List ℕ). text ++ rest) over ∙ append-nil text) ∙ c.loop-place.invariant }
