-- Properties of every pace, whatever the clock reads.
use Rattle.std.specs.Prelude.{◌≡◌, ℕ, ◌+◌, ◌*◌, ◌<◌, ◌≤◌, length, List}
use Rattle.mg_clock.specs.Due.{period, ticks_due}
use Rattle.mg_pacer.specs.Pace.{Pace, Advances, Paces, start, ticks, latest}

-- The k-th tick is written at or after k * 20 ms by the clock, never before.
abbrev pub NeverEarly : Type 0
NeverEarly = (polls : ℕ) (readings waits : List ℕ) (p : Pace) → 0 < polls
    → Paces (start polls) readings waits p → (k : ℕ) → k ≤ ticks p → k * period ≤ latest readings

-- The number of ticks that were written or skipped is the number of ticks that were due.
abbrev pub Accounted : Type 0
Accounted = (polls : ℕ) (readings waits : List ℕ) (p : Pace) → 0 < polls
    → Paces (start polls) readings waits p → ticks p + p.left ≡ ticks_due (latest readings)

-- At most 50 ticks are written at one reading.
abbrev pub Bounded : Type 0
Bounded = (p q : Pace) (t : ℕ) → 0 < p.polls → Advances p t q → ticks q ≤ ticks p + 50

-- The readings determine the pace and the waits.
abbrev pub PaceIsDeterministic : Type 0
PaceIsDeterministic = (p : Pace) (readings waits others : List ℕ) (q r : Pace)
    → length waits ≡ length others → Paces p readings waits q → Paces p readings others r
    → (waits ≡ others) × (q ≡ r)
