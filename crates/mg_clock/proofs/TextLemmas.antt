-- The lines that one more step adds.
use Rattle.std.proofs.Common.{◌≡◌, ℕ, zero, suc, ◌+◌, ◌*◌, ◌/◌, ◌%◌, ◌<◌, Bool, true, false, ◌==◌, nat_lt, List, [], ◌++◌, refl, sym, ap, ap₂, ◌∙◌, append_assoc, arith, ltb-true}
use Rattle.std.proofs.lemmas.List.{append-nil}
use Rattle.std.proofs.lemmas.Nat.{div-add-mod', div-mul-add, mod-mul-add, mod_below}
use Rattle.std.proofs.lemmas.Bool.Decides.{nat_tests}
use Rattle.std.specs.List.{repeat}
use Rattle.mg_clock.specs.Text.{text, poll_line, tick_line, period_lines}
use Rattle.mg_clock.specs.aids.Steps.{step_lines}

repeat_suc : {A : Type 0} (n : ℕ) (xs : List A) → repeat (suc n) xs ≡ repeat n xs ++ xs
repeat_suc zero xs = append-nil xs
repeat_suc (suc n) xs = ap (λ l. xs ++ l) (repeat_suc n xs) ∙ sym (append_assoc xs (repeat n xs) xs)

pub repeat_more : {A : Type 0} (n : ℕ) (xs : List A) → repeat (n + 1) xs ≡ repeat n xs ++ xs
repeat_more n xs =
    let one : n + 1 ≡ suc n = omega arith in
    rw one (repeat_suc n xs)

-- The text after `k` complete periods and `r` polls.
text_at : (polls k r : ℕ) → r < polls → text polls (k * polls + r) ≡ repeat k (period_lines polls) ++ repeat r poll_line
unfolding text
text_at polls k r lt = ap₂ (λ a b. repeat a (period_lines polls) ++ repeat b poll_line) (div-mul-add k polls r lt)
    (mod-mul-add k polls r lt)

not_zero : (n : ℕ) → (n + 1 == 0) ≡ false
not_zero n = grind (arith, nat_tests)

-- If the next step is only a poll, the text grows by the lines of that step.
poll_more : (polls k r : ℕ) → r + 1 < polls →
    text polls (k * polls + r + 1) ≡ text polls (k * polls + r) ++ step_lines polls (k * polls + r + 1)
poll_more polls k r lt =
    let at : k * polls + r + 1 ≡ k * polls + (r + 1) = omega arith in
    let lines : step_lines polls (k * polls + r + 1) ≡ poll_line =
    rw (at, mod-mul-add k polls (r + 1) lt, not_zero r) refl in
    ap (text polls) at ∙ text_at polls k (r + 1) lt ∙
    ap (λ (l : List ℕ). repeat k (period_lines polls) ++ l) (repeat_more r poll_line)
    ∙ sym (append_assoc (repeat k (period_lines polls)) (repeat r poll_line) poll_line)
    ∙ ap₂ (λ (a b : List ℕ). a ++ b) (sym (text_at polls k r (omega (arith, lt)))) (sym lines)

-- If the next step is both a poll and a tick, the text grows by the lines of that step.
tick_more : (k r : ℕ) → text (r + 1) (k * (r + 1) + r + 1) ≡ text (r + 1) (k * (r + 1) + r) ++
    step_lines (r + 1) (k * (r + 1) + r + 1)
tick_more k r =
    let polls = r + 1 in
    let at : k * (r + 1) + r + 1 ≡ (k + 1) * (r + 1) + 0 = omega arith in
    let lines : step_lines polls (k * (r + 1) + r + 1) ≡ poll_line ++ tick_line =
    rw (at, mod-mul-add (k + 1) polls 0 (omega arith)) refl in
    let period : period_lines polls ≡ repeat r poll_line ++ (poll_line ++ tick_line) =
    ap (λ (l : List ℕ). l ++ tick_line) (repeat_more r poll_line) ∙
    append_assoc (repeat r poll_line) poll_line tick_line in
    ap (text polls) at ∙ text_at polls (k + 1) 0 (omega arith) ∙ append-nil (repeat (k + 1) (period_lines polls)) ∙
    repeat_more k (period_lines polls)
    ∙ ap (λ (l : List ℕ). repeat k (period_lines polls) ++ l) period
    ∙ sym (append_assoc (repeat k (period_lines polls)) (repeat r poll_line) (poll_line ++ tick_line))
    ∙ ap₂ (λ (a b : List ℕ). a ++ b) (sym (text_at polls k r (omega arith))) (sym lines)

step_at : (polls k r : ℕ) (b : Bool) → nat_lt (r + 1) polls ≡ b → r < polls
    → text polls (k * polls + r + 1) ≡ text polls (k * polls + r) ++ step_lines polls (k * polls + r + 1)
step_at polls k r true e lt = poll_more polls k r (ltb-true _ _ e)
step_at polls k r false e lt =
    let last : polls ≡ r + 1 = grind (arith, nat_tests, e, lt) in
    rw last (tick_more k r)

pub text_more : (polls step : ℕ) → 0 < polls → text polls (step + 1) ≡ text polls step ++ step_lines polls (step + 1)
text_more polls step some =
    rw (← div-add-mod' step polls) (step_at polls (step / polls) (step % polls) (nat_lt (step % polls + 1) polls) refl
    (mod_below step polls some))

pub text_none : (polls : ℕ) → 0 < polls → text polls 0 ≡ []
text_none polls some =
    let at : 0 ≡ 0 * polls + 0 = omega arith in
    rw at (text_at polls 0 0 some)
