-- Who could hear whom, as intervals of ticks. The intervals follow from the moments, which come newest first: the
-- newest of n moments is the one before tick n - 1.
use Rattle.std.specs.Prelude.{ℕ, ◌+◌, not, List, [], ◌∷◌, ◌++◌, length, filter, map, Option}
use Rattle.std.specs.Prelude.{Some, None, if◌then◌else◌}
use Rattle.mg_heard.specs.declared.open_flow.OpenFlow.{OpenFlow}
use Rattle.mg_heard.specs.OpenFlow.{has}

-- A period in which a flow was open: before the tick `first`, and before all later ticks up to, but not including, the
-- tick `end`. Without an end, the flow was still open at the end of the script.
pub record Interval : Type 0 where
  pub flow : OpenFlow
  pub first : ℕ
  pub end : Option ℕ

-- The tick since which a flow has been open: one tick after that of the newest moment without the flow, or tick 0 if
-- each moment has the flow.
unfoldable pub since : List (List OpenFlow) → OpenFlow → ℕ
since [] x = 0
since (flows ∷ older) x = if has flows x then since older x else length older + 1

-- The flows in the newest moment.
abbrev pub newest : List (List OpenFlow) → List OpenFlow
newest [] = []
newest (flows ∷ older) = flows

-- The interval with this end, for a flow that is open in the newest moment.
abbrev pub interval_of : List (List OpenFlow) → Option ℕ → OpenFlow → Interval
interval_of moments end x = record { flow = x; first = since moments x; end = end }

-- The intervals that end at the next moment: their flows are open in the newest moment, but not in the next one.
abbrev pub ending : List (List OpenFlow) → List OpenFlow → List Interval
ending moments next =
    map (interval_of moments (Some (length moments)))
    (filter (λ x. not (has next x)) (newest moments))

-- All intervals that have ended, in order of their ends. Intervals with the same end are in order of listeners and then
-- of talkers.
unfoldable pub ended : List (List OpenFlow) → List Interval
ended [] = []
ended (flows ∷ older) = ended older ++ ending older flows

-- The intervals that have not ended.
abbrev pub lasting : List (List OpenFlow) → List Interval
lasting moments = map (interval_of moments None) (newest moments)

abbrev pub intervals : List (List OpenFlow) → List Interval
intervals moments = ended moments ++ lasting moments
