-- The intervals say exactly who could hear whom, and report nothing twice.
use Rattle.std.specs.Prelude.{◌≡◌, ◌↔◌, ℕ, true, List, [], ◌∷◌, ◌++◌, AllPairs, Any, Contains}
use Rattle.std.specs.Prelude.{count_by, reverse}
use Rattle.mg_engine.specs.Flow.{flow}
use Rattle.mg_core.specs.declared.event.Event.{Event}
use Rattle.mg_core.specs.Counting.{is_tick}
use Rattle.mg_core.specs.ExceptReceived.{AgreeExceptReceived, lasting}
use Rattle.mg_core.specs.Base.{IsBase}
use Rattle.mg_core.specs.Step.{Sent, Run}
use Rattle.mg_core.specs.World.{World}
use Rattle.mg_heard.specs.declared.open_flow.OpenFlow.{OpenFlow}
use Rattle.mg_heard.specs.Intervals.{Interval, intervals}
use Rattle.mg_heard.specs.Maximal.{IsOfPair, IsTellingOnce, LiesIn}
use Rattle.mg_heard.specs.Moments.{AreMoments}
use Rattle.mg_heard.specs.OpenFlows.{open_flow}

-- The intervals of these events on a gateway that began with this world. Ticks are counted from there.
abbrev pub AreIntervals : World → List Event → List Interval → Type 0
AreIntervals base events ys =
    (moments : List (List OpenFlow)) × AreMoments base events moments
    × (ys ≡ intervals (reverse moments))

-- Events determine their intervals.
abbrev pub EventsDetermineIntervals : Type 0
EventsDetermineIntervals =
    (base : World) (events : List Event) (xs ys : List Interval)
    → AreIntervals base events xs → AreIntervals base events ys → xs ≡ ys

-- ## The intervals at each tick

-- Nothing happens before the next tick: the first of these events is a tick, or there are no events.
abbrev pub IsAtTick : List Event → Type 0
IsAtTick [] = Unit {0}
IsAtTick (event ∷ later) = is_tick event ≡ true

-- One of the intervals belongs to this pair and contains this tick.
abbrev pub IsToldAt : ℕ → ℕ → ℕ → List Interval → Type 0
IsToldAt tick talker listener ys =
    Any (λ y. IsOfPair talker listener y × LiesIn tick y) ys

-- Before each tick, including the one that comes next after all events, a talker's speech flows to a listener if and
-- only if one of the pair's intervals contains this tick. This is the flow of the headline theorem.
abbrev pub TellsTheFlow : World → List Event → List Interval → Type 0
TellsTheFlow base events ys =
    (past future : List Event) (sent : List Sent) (w : World) (talker listener : ℕ)
    → events ≡ past ++ future → Run base past sent w → IsAtTick future
    → (flow w.gateway talker listener ≡ true)
    ↔ IsToldAt (count_by is_tick past) talker listener ys

-- The pair, the context and the Remotes in an interval are right in the world before each tick that the interval
-- contains.
abbrev pub IntervalsTellTheTruth : Type 0
IntervalsTellTheTruth =
    (base : World) (past future : List Event) (sent : List Sent) (w : World)
    (ys : List Interval) (y : Interval) → AreIntervals base (past ++ future) ys
    → Run base past sent w → IsAtTick future → Contains ys y
    → LiesIn (count_by is_tick past) y
    → y.flow ≡ open_flow w.gateway y.flow.listener y.flow.talker

-- ## No pair is reported twice

-- No two intervals of the same listener and talker contain the same tick.
abbrev pub NoPairIsToldTwice : Type 0
NoPairIsToldTwice =
    (base : World) (events : List Event) (ys : List Interval) → IsBase base
    → AreIntervals base events ys → AllPairs IsTellingOnce ys

-- ## Scripts without speech

-- A journal and a full recording of the same gateway have the same intervals. (`lasting` drops the RTP datagrams and the
-- oversized control datagrams.) They may begin with worlds that differ in what was received.
abbrev pub RtpChangesNoInterval : Type 0
RtpChangesNoInterval =
    (a b : World) (events : List Event) (ys : List Interval) → AgreeExceptReceived a b
    → AreIntervals a events ys → AreIntervals b (lasting events) ys
