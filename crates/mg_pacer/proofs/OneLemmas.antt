-- The readings determine the pace, and the wait after each reading.
use Rattle.std.proofs.Common.{◌≡◌, ℕ, ◌+◌, ◌*◌, ◌<◌, ◌≤◌, ◌⊎◌, inl, inr, length, List, [], ◌∷◌, refl, sym, ap, ap₂, subst, ◌∙◌, arith}
use Rattle.std.proofs.lemmas.Bool.{cases_lt}
use Rattle.std.proofs.lemmas.Nat.{mul-le}
use Rattle.mg_pacer.specs.Pace.{Pace, Advances, Paces, Waits}
use Rattle.mg_pacer.specs.Theorems.{PaceIsDeterministic}

not_more : (p m n : Pace) (t : ℕ) → Advances p t m → Advances p t n → m.left < n.left → ⊥
not_more p m n t a b lt =
    let all : m.steps + m.polls * m.left ≡ n.steps + n.polls * n.left = a.all ∙ sym b.all in
    let first : m.polls * m.left ≡ p.polls * m.left = ap (λ (k : ℕ). k * m.left) a.polls in
    let second : n.polls * n.left ≡ p.polls * n.left = ap (λ (k : ℕ). k * n.left) b.polls in
    let more = mul-le p.polls (m.left + 1) p.polls n.left (omega arith) (omega (arith, lt)) in
    let needed = b.needed (omega (arith, lt, a.more.1)) in
    absurd (omega (arith, all, first, second, more, needed, a.few))

same_left : (p m n : Pace) (t : ℕ) → Advances p t m → Advances p t n → m.left ≡ n.left
same_left p m n t a b = go (cases_lt m.left n.left) (cases_lt n.left m.left)
  where
    go : (m.left < n.left) ⊎ (n.left ≤ m.left) → (n.left < m.left) ⊎ (m.left ≤ n.left) → m.left ≡ n.left
    go (inl lt) other = absurd (not_more p m n t a b lt)
    go (inr le) (inl lt) = absurd (not_more p n m t b a lt)
    go (inr le) (inr ge) = omega (arith, le, ge)

abbrev pace_with : ℕ → ℕ → ℕ → Pace
pace_with polls steps left = record { polls = polls; steps = steps; left = left }

one_advance : (p m n : Pace) (t : ℕ) → Advances p t m → Advances p t n → m ≡ n
one_advance p m n t a b =
    let polls : m.polls ≡ n.polls = a.polls ∙ sym b.polls in
    let left = same_left p m n t a b in
    let all : m.steps + m.polls * m.left ≡ n.steps + n.polls * n.left = a.all ∙ sym b.all in
    let products : m.polls * m.left ≡ n.polls * n.left = ap₂ (λ (i j : ℕ). i * j) polls left in
    let steps : m.steps ≡ n.steps = omega (arith, all, products) in
    ap (λ (k : ℕ). pace_with k m.steps m.left) polls ∙
    (ap (λ (k : ℕ). pace_with n.polls k m.left) steps ∙ ap (λ (k : ℕ). pace_with n.polls n.steps k) left)

not_longer : (p : Pace) (t d e : ℕ) → Waits p t d → Waits p t e → d < e → ⊥
not_longer p t d e a b lt =
    let none = b.no_longer (t + d) (omega arith) (omega (arith, lt)) in
    absurd (omega (arith, a.enough, none))

one_wait : (p : Pace) (t d e : ℕ) → Waits p t d → Waits p t e → d ≡ e
one_wait p t d e a b = go (cases_lt d e) (cases_lt e d)
  where
    go : (d < e) ⊎ (e ≤ d) → (e < d) ⊎ (d ≤ e) → d ≡ e
    go (inl lt) other = absurd (not_longer p t d e a b lt)
    go (inr le) (inl lt) = absurd (not_longer p t e d b a lt)
    go (inr le) (inr ge) = omega (arith, le, ge)

module _ (p m n : Pace) (t d e : ℕ) (ts ds es : List ℕ) (q r : Pace) (first : Advances p t m)
    (second : Advances p t n) where
  one_more : Waits m t d → Waits n t e → Paces n ts es r → (Paces m ts es r → (ds ≡ es) × (q ≡ r)) →
      (d ∷ ds ≡ e ∷ es) × (q ≡ r)
  one_more wait other run rest =
      let same = one_advance p n m t second first in
      let both = rest (subst (λ (x : Pace). Paces x ts es r) same run) in (
        ap₂ (λ (x : ℕ) (xs : List ℕ). x ∷ xs) (one_wait m t d e wait (subst (λ (x : Pace). Waits x t e) same other))
            both.0,
        both.1,
      )

paces_one : (p : Pace) (ts ds es : List ℕ) (q r : Pace) → length ds ≡ length es → Paces p ts ds q → Paces p ts es r →
    (ds ≡ es) × (q ≡ r)
paces_one p [] [] [] q r even run other = (refl, run ∙ sym other)
paces_one p [] [] (e ∷ es) q r even run other = absurd other
paces_one p [] (d ∷ ds) es q r even run other = absurd run
paces_one p (t ∷ []) [] [] q r even run other = (refl, one_advance p q r t run other)
paces_one p (t ∷ []) [] (e ∷ es) q r even run other = absurd (omega (arith, even))
paces_one p (t ∷ []) (d ∷ ds) [] q r even run other = absurd (omega (arith, even))
paces_one p (t ∷ []) (d ∷ ds) (e ∷ es) q r even run other =
    one_more p run.0 other.0 t d e [] ds es q r run.1 other.1 run.2 other.2 other.3
    (λ later. paces_one run.0 [] ds es q r (omega (arith, even)) run.3 later)
paces_one p (t ∷ u ∷ ts) [] es q r even run other = absurd run
paces_one p (t ∷ u ∷ ts) (d ∷ ds) [] q r even run other = absurd other
paces_one p (t ∷ u ∷ ts) (d ∷ ds) (e ∷ es) q r even run other =
    one_more p run.0 other.0 t d e (u ∷ ts) ds es q r run.1 other.1 run.2 other.2 other.3
    (λ later. paces_one run.0 (u ∷ ts) ds es q r (omega (arith, even)) run.3 later)

pub one_pace : PaceIsDeterministic
one_pace = paces_one
