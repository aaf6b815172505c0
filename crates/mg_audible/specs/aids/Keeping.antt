-- The state of a follower while a script runs, and the entries that it has reported.
use Rattle.std.specs.Prelude.{◌≡◌, ℕ, List, [], length, reverse, Option}
use Rattle.mg_core.specs.declared.event.Event.{Event}
use Rattle.mg_core.specs.declared.state.CoreState.{CoreState}
use Rattle.mg_core.specs.Note.{Note, events_in}
use Rattle.mg_core.specs.World.{World}
use Rattle.mg_core.specs.aids.Stands.{StandsFor}
use Rattle.mg_heard.specs.declared.clock.Clock.{Clock}
use Rattle.mg_heard.specs.declared.entry.Entry.{Entry}
use Rattle.mg_heard.specs.declared.entry.Entry.TheVariants as entries
use Rattle.mg_heard.specs.declared.moment.Moment.{Moment}
use Rattle.mg_heard.specs.declared.open_flow.OpenFlow.{OpenFlow}
use Rattle.mg_heard.specs.declared.open_interval.OpenInterval.{OpenInterval}
use Rattle.mg_heard.specs.Intervals.{ended}
use Rattle.mg_heard.specs.Times.{tick_count}
use Rattle.mg_heard.specs.Told.{audible_in, intervals_in}
use Rattle.mg_heard.specs.aids.Opening.{AreLasting}
use Rattle.mg_heard.specs.aids.Timing.{AreBegun, IsClock, Timed}
use Rattle.mg_audible.specs.declared.gateways.Gateways.{Gateways}
use Rattle.mg_audible.specs.Audible.{RunsWithout}
use Rattle.mg_audible.specs.Without.{StepWithout}

-- Each of these gateways represents the world.
pub record AllStandFor (gateways : Gateways) (w : World) : Type 0 where
  pub script : StandsFor gateways.script.state w
  pub whole : StandsFor gateways.whole.state w
  pub without : StandsFor gateways.without.state w

-- The first core represents the first world, and the second core the second world.
pub record StandForBoth (first second : CoreState) (v w : World) : Type 0 where
  pub whole : StandsFor first v
  pub without : StandsFor second w

-- From all worlds that two cores represent, an event leads to worlds that the cores represent afterwards. The event
-- arrives at both cores, or only at the first one if it is speech of the talker.
abbrev pub LeadsBoth : ℕ → Event → (whole without whole_after without_after : CoreState) → Type 0
LeadsBoth talker event whole without whole_after without_after =
    (v w : World) → StandForBoth whole without v w → (next : World) × (other : World)
    × StepWithout talker v w event next other
    × StandForBoth whole_after without_after next other

-- The entry that reports a stored interval with this end.
abbrev pub entry_until : Option Moment → OpenInterval → Entry
entry_until end x = entries.Audible (record { flow = x.flow; first = x.first; end = end })

-- The intervals that have not ended in the newest moment of a past are stored, and all others have been reported.
pub record TellsPast (past : List (List OpenFlow)) (stored : List OpenInterval)
    (Told : List Entry → Type 0) : Type 0 where
  pub lasts : AreLasting past stored
  pub xs : List Entry
  pub no_others : intervals_in xs ≡ []
  pub ended_are : audible_in xs ≡ ended past
  pub told : Told xs

-- After these notes, two cores represent the worlds after the events of the notes. A follower has reported the audible
-- intervals that have ended, and stores the intervals that have not ended.
pub record KeepsAudible (base : World) (talker : ℕ) (notes : List Note)
    (whole without : CoreState) (tick : ℕ) (stored : List OpenInterval)
    (Told : List Entry → Type 0) : Type 0 where
  pub past : List (List OpenFlow)
  pub v : World
  pub w : World
  pub runs : RunsWithout talker base base (events_in notes) (reverse past) v w
  pub stand : StandForBoth whole without v w
  pub count : tick ≡ length past
  pub tells : TellsPast past stored Told

-- The state of a follower after these notes, with their dates and gaps. The clock has passed all notes, and all stored
-- and reported moments are before the next tick.
pub record KeepsTimed (base : World) (talker : ℕ) (notes : List Note)
    (whole without : CoreState) (clock : Clock) (stored : List OpenInterval)
    (Told : List Entry → Type 0) : Type 0 where
  pub clock_is : IsClock (reverse notes) clock
  pub begun : AreBegun (reverse notes) (tick_count (reverse notes)) stored
  pub keeps : KeepsAudible base talker notes whole without clock.ticks stored
      (Timed (reverse notes) (tick_count (reverse notes)) Told)
