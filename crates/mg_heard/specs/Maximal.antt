-- A characterization of all intervals: a flow is open throughout its interval, and the interval can't be extended. Here
-- the moments come oldest first: the one before tick n is at index n.
use Rattle.std.specs.Prelude.{◌≡◌, ◌↔◌, ℕ, ◌+◌, ◌≤◌, ◌<◌, List, [], length, reverse}
use Rattle.std.specs.Prelude.{slice_index_or, Contains, IfSome, IsSomeAnd}
use Rattle.mg_heard.specs.declared.open_flow.OpenFlow.{OpenFlow}
use Rattle.mg_heard.specs.Intervals.{Interval, intervals}

-- The flow is open before this tick.
abbrev pub IsOpenAt : List (List OpenFlow) → ℕ → OpenFlow → Type 0
IsOpenAt moments tick x = Contains (slice_index_or moments tick []) x

-- The tick lies in the interval.
abbrev pub LiesIn : ℕ → Interval → Type 0
LiesIn tick y = (y.first ≤ tick) × IfSome y.end (λ end. tick < end)

-- The interval contains at least one tick, and its flow is open before each of its ticks. It can't be extended: the
-- flow is not open before the preceding tick. If the interval has an end, the flow is not open before the tick at the
-- end either.
pub record IsTrueAndMaximal (moments : List (List OpenFlow)) (y : Interval) : Type 0 where
  pub some : (y.first < length moments) × LiesIn y.first y
  pub throughout : (tick : ℕ) → tick < length moments → LiesIn tick y
      → IsOpenAt moments tick y.flow
  pub not_before : (tick : ℕ) → tick + 1 ≡ y.first → ¬ IsOpenAt moments tick y.flow
  pub not_after : IfSome y.end (λ end. (end < length moments) × ¬ IsOpenAt moments end y.flow)

-- The intervals of any moments are exactly the true and maximal ones.
abbrev pub IntervalsAreTrueAndMaximal : Type 0
IntervalsAreTrueAndMaximal =
    (moments : List (List OpenFlow)) (y : Interval)
    → Contains (intervals (reverse moments)) y ↔ IsTrueAndMaximal moments y

-- ## Pairs

-- The interval belongs to this pair.
abbrev pub IsOfPair : ℕ → ℕ → Interval → Type 0
IsOfPair talker listener y = (y.flow.talker ≡ talker) × (y.flow.listener ≡ listener)

-- If two intervals belong to the same pair, the second begins at or after the end of the first.
abbrev pub IsTellingOnce : Interval → Interval → Type 0
IsTellingOnce x y =
    IsOfPair y.flow.talker y.flow.listener x → IsSomeAnd x.end (λ end. end ≤ y.first)
