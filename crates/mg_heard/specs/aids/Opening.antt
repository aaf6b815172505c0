-- The intervals that are open, as the code stores and continues them.
use Rattle.std.specs.Prelude.{◌≡◌, ℕ, ◌+◌, ◌*◌, ◌^◌, ◌<◌, not, List, None, Some, Option, find}
use Rattle.std.specs.Prelude.{filter, map, All, AllPairs}
use Rattle.std.specs.Option.{option_map, option_map_or}
use Rattle.mg_heard.specs.declared.moment.Moment.{Moment}
use Rattle.mg_heard.specs.declared.open_flow.OpenFlow.{OpenFlow}
use Rattle.mg_heard.specs.declared.open_interval.OpenInterval.{OpenInterval}
use Rattle.mg_words.specs.Limits.{member_limit, termination_limit}
use Rattle.mg_heard.specs.Intervals.{Interval, lasting}
use Rattle.mg_heard.specs.OpenFlow.{has, is_same}

-- ## Order

-- A number for each pair. The numbers order pairs by listener, then by talker.
abbrev pub key_of : OpenFlow → ℕ
key_of x = x.listener * 2 ^ 32 + x.talker

-- The intervals are in order of their pairs, and no pair has two intervals.
abbrev pub IsRising : List OpenInterval → Type 0
IsRising xs = AllPairs (λ x later. key_of x.flow < key_of later.flow) xs

-- The pairs of all these intervals come before the pair of this flow.
abbrev pub AreBefore : OpenFlow → List OpenInterval → Type 0
AreBefore flow xs = All (λ x. key_of x.flow < key_of flow) xs

-- ## Intervals of the same flows

-- The moment at which the interval of this flow began, or `None` if the flow has no interval.
abbrev pub beginning_among : List OpenInterval → OpenFlow → Option Moment
beginning_among xs flow = option_map (λ x. x.first) (find (λ x. is_same flow x.flow) xs)

-- An interval whose beginning was moved back to that of the earlier interval of the same flow. If its flow has no
-- earlier interval, it is unchanged.
abbrev pub continued : List OpenInterval → OpenInterval → OpenInterval
continued earlier x =
    option_map_or (λ first. record x { first = first }) (beginning_among earlier x.flow) x

abbrev pub flows_of : List OpenInterval → List OpenFlow
flows_of xs = map (λ x. x.flow) xs

-- The intervals whose flows are not in `flows`.
abbrev pub without_flows : List OpenFlow → List OpenInterval → List OpenInterval
without_flows flows xs = filter (λ x. not (has flows x.flow)) xs

-- ## Places for intervals

-- An upper limit for the number of open flows.
abbrev pub flow_limit : ℕ
flow_limit = termination_limit * member_limit

-- An interval that begins at this moment.
abbrev pub beginning_at : Moment → OpenFlow → OpenInterval
beginning_at first x = record { flow = x; first = first }

-- ## Intervals without dates

-- A stored interval while it has no end. `ended_at` gives it an end.
abbrev pub still_open : OpenInterval → Interval
still_open x = record { flow = x.flow; first = x.first.tick; end = None }

abbrev pub ended_at : ℕ → OpenInterval → Interval
ended_at tick x = record { flow = x.flow; first = x.first.tick; end = Some tick }

-- The stored intervals are those that have not ended in the newest moment of a past.
abbrev pub AreLasting : List (List OpenFlow) → List OpenInterval → Type 0
AreLasting past xs = IsRising xs × (map still_open xs ≡ lasting past)
