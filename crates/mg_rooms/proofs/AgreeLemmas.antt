-- Members and records still agree after a termination enters or leaves a context.
use Rattle.mg_rooms.proofs.Common.{◌≡◌, ℕ, ◌+◌, ◌≤◌, ◌&&◌, Bool, true, cond, List, [], ◌∷◌, ◌++◌, length, arith, ◌==◌, length-append, count_by, eqb-true, Record, without}
use Rattle.std.proofs.lemmas.Bool.Decides.{nat_tests}
use Rattle.mg_rooms.proofs.CountLemmas.{one, one-false, count-cons, count-push}

-- The number of times that n occurs in a list.
abbrev pub times : ℕ → List ℕ → ℕ
times n ms = count_by (λ m. m == n) ms

pub times-without : (k n : ℕ) (ms : List ℕ) → 1 ≤ times k ms → times n (without k ms) + one (k == n) ≡ times n ms
times-without k n [] h = absurd (omega arith)
times-without k n (m ∷ ms) h =
    grind (arith, count-cons (λ x. x == n) m ms, times-without k n ms, count-cons (λ x. x == n) m (without k ms))

pub length-without : (k : ℕ) (ms : List ℕ) → 1 ≤ times k ms → length (without k ms) + 1 ≡ length ms
length-without k [] h = absurd (omega arith)
length-without k (m ∷ ms) h = grind (arith, length-without k ms)

pub length-without-le : (k : ℕ) (ms : List ℕ) → length (without k ms) ≤ length ms
length-without-le k [] = omega arith
length-without-le k (m ∷ ms) = grind (arith, length-without-le k ms)

-- The members of each context agree with a count of the records of that context.
pub record Counted (members : ℕ → List ℕ) (count : (Record → Bool) → ℕ) : Type 0 where
  pub same : (c n : ℕ) → times n (members c) ≡ count (λ r. (r.context == c) && (r.number == n))
  pub as_many : (c : ℕ) → length (members c) ≡ count (λ r. r.context == c)

-- Members and records still agree after r enters the context c.
pub counted-entered : (m later : ℕ → List ℕ) (i j : (Record → Bool) → ℕ) (r : Record) (c k : ℕ) → r.context ≡ c →
    r.number ≡ k → Counted m i
    → ((d : ℕ) → later d ≡ cond (c == d) (m d ++ (k ∷ [])) (m d))
    → ((p : Record → Bool) → j p ≡ i p + one (p r))
    → Counted later j
counted-entered m later i j r c k context number h is counts = record {
  same = λ d n. let more = counts (λ x. (x.context == d) && (x.number == n)) in
      grind (arith, count-push (λ x. x == n) (m d) k);
  as_many = λ d. let more = counts (λ x. x.context == d) in
      grind (arith, length-append (m d) (k ∷ []));
}

-- Members and records still agree after r leaves the context c.
pub counted-left : (m later : ℕ → List ℕ) (i j : (Record → Bool) → ℕ) (r : Record) (c k : ℕ) → r.context ≡ c →
    r.number ≡ k → Counted m i → 1 ≤ i (λ x. (x.context == c) && (x.number == k))
    → ((d : ℕ) → later d ≡ cond (c == d) (without k (m d)) (m d))
    → ((p : Record → Bool) → j p + one (p r) ≡ i p)
    → Counted later j
counted-left m later i j r c k context number h inside is counts = record {
  same = λ d n. let less = counts (λ x. (x.context == d) && (x.number == n)) in
      grind (arith, times-without k n (m d));
  as_many = λ d. let less = counts (λ x. x.context == d) in
      grind (arith, length-without k (m d));
}
  where
    there : (d : ℕ) → (c == d) ≡ true → 1 ≤ times k (m d)
    there d e = grind arith
