-- Properties of all paces, whatever the clock reads.
use Rattle.std.proofs.Common.{◌≡◌, ℕ, ◌+◌, ◌*◌, ◌/◌, ◌<◌, ◌≤◌, ◌⊎◌, inl, inr, List, [], ◌∷◌, refl, sym, ap, ◌∙◌, arith}
use Rattle.std.specs.Prelude.{max}
use Rattle.std.proofs.lemmas.Bool.{cases_lt}
use Rattle.std.proofs.lemmas.Nat.{le-div}
use Rattle.std.proofs.Math.Nat.{div-div-eq-div-mul, div-mul-le_self, add-mul-div_right, mul-div-mul_right}
use Rattle.mg_clock.specs.Due.{steps_due, ticks_due}
use Rattle.mg_pacer.specs.Pace.{Pace, Advances, Paces, start, steps_past, latest}
use Rattle.mg_pacer.specs.Theorems.{Accounted, Bounded, NeverEarly}

div_grows : (a b n : ℕ) → 0 < n → a ≤ b → a / n ≤ b / n
div_grows a b n some le = le-div (a / n) b n some (omega (arith, le, div-mul-le_self a n))

due_grows : (polls t u : ℕ) → t ≤ u → steps_due polls t ≤ steps_due polls u
due_grows polls t u le =
    let more : t * polls ≤ u * polls = grind (arith, le) in
    div_grows (t * polls) (u * polls) 20000000 (omega arith) more

due_latest : (polls t u : ℕ) → steps_due polls (max t u) ≡ max (steps_due polls t) (steps_due polls u)
due_latest polls t u = go (cases_lt t u)
  where
    go : (t < u) ⊎ (u ≤ t) → steps_due polls (max t u) ≡ max (steps_due polls t) (steps_due polls u)
    go (inl lt) =
        let is : max t u ≡ u = omega (arith, lt) in
        let le = due_grows polls t u (omega (arith, lt)) in
        ap (steps_due polls) is ∙ omega (arith, le)
    go (inr le) =
        let is : max t u ≡ t = omega (arith, le) in
        let less = due_grows polls u t le in
        ap (steps_due polls) is ∙ omega (arith, less)

due_none : (polls : ℕ) → steps_due polls 0 ≡ 0
due_none polls =
    let none : 0 * polls ≡ 0 = omega arith in
    rw none refl

module _ (p m : Pace) (t : ℕ) (step : Advances p t m) where
  one_more : (ts : List ℕ) (q : Pace) → (q.polls ≡ m.polls) ×
      (steps_past q ≡ max (steps_past m) (steps_due m.polls (latest ts)))
      → (q.polls ≡ p.polls) × (steps_past q ≡ max (steps_past p) (steps_due p.polls (max t (latest ts))))
  one_more ts q later =
      let same : steps_due m.polls (latest ts) ≡ steps_due p.polls (latest ts) =
      ap (λ (n : ℕ). steps_due n (latest ts)) step.polls in
      (later.0 ∙ step.polls, omega (arith, later.1, same, step.all, due_latest p.polls t (latest ts)))

none_more : (p : Pace) → (p.polls ≡ p.polls) × (steps_past p ≡ max (steps_past p) (steps_due p.polls (latest [])))
none_more p = (refl, omega (arith, due_none p.polls))

all_counted : (p : Pace) (ts ds : List ℕ) (q : Pace) → Paces p ts ds q → (q.polls ≡ p.polls) ×
    (steps_past q ≡ max (steps_past p) (steps_due p.polls (latest ts)))
all_counted p [] [] q is = (ap (λ (x : Pace). x.polls) is, ap steps_past is ∙ omega (arith, due_none p.polls))
all_counted p [] (d ∷ ds) q run = absurd run
all_counted p (t ∷ []) [] q step = one_more p q t step [] q (none_more q)
all_counted p (t ∷ u ∷ ts) [] q run = absurd run
all_counted p (t ∷ []) (d ∷ ds) q run = one_more p run.0 t run.1 [] q (all_counted run.0 [] ds q run.3)
all_counted p (t ∷ u ∷ ts) (d ∷ ds) q run = one_more p run.0 t run.1 (u ∷ ts) q (all_counted run.0 (u ∷ ts) ds q run.3)

all_due : (polls : ℕ) (ts ds : List ℕ) (q : Pace) → Paces (start polls) ts ds q → (q.polls ≡ polls) ×
    (q.steps + q.left * polls ≡ steps_due polls (latest ts))
all_due polls ts ds q run =
    let all = all_counted (start polls) ts ds q run in
    let turned : q.polls * q.left ≡ q.left * polls = ap (λ (n : ℕ). n * q.left) all.0 ∙ omega arith in
    (all.0, omega (arith, turned, all.1))

pub accounted : Accounted
accounted polls ts ds q some run =
    let all = all_due polls ts ds q run in
    let whole : (q.steps + q.left * polls) / polls ≡ q.steps / polls + q.left = add-mul-div_right q.steps q.left some in
    let due : steps_due polls (latest ts) / polls ≡ ticks_due (latest ts) =
    div-div-eq-div-mul (latest ts * polls) 20000000 polls ∙ mul-div-mul_right (latest ts) 20000000 some in
    ap (λ (n : ℕ). q.steps / n + q.left) all.0 ∙ sym whole ∙ ap (λ (n : ℕ). n / polls) all.1 ∙ due

pub never_early : NeverEarly
never_early polls ts ds q some run k le =
    let is = accounted polls ts ds q some run in
    let below = div-mul-le_self (latest ts) 20000000 in
    omega (arith, le, is, below)

pub bounded : Bounded
bounded p q t some step =
    let most : q.steps / p.polls ≤ (p.steps + 50 * p.polls) / p.polls =
    div_grows q.steps (p.steps + 50 * p.polls) p.polls some step.few in
    let sum : (p.steps + 50 * p.polls) / p.polls ≡ p.steps / p.polls + 50 = add-mul-div_right p.steps 50 some in
    let same : q.steps / q.polls ≡ q.steps / p.polls = ap (λ (n : ℕ). q.steps / n) step.polls in
    omega (arith, most, sum, same)
