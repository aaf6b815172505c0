-- The state of a follower while a script runs, and the entries that it has reported.
use Rattle.std.specs.Prelude.{◌≡◌, ℕ, Bool, false, List, [], ◌∷◌, length, reverse, Option}
use Rattle.mg_core.specs.Note.{Note, events_in}
use Rattle.mg_core.specs.World.{World}
use Rattle.mg_heard.specs.declared.clock.Clock.{Clock}
use Rattle.mg_heard.specs.declared.entry.Entry.{Entry}
use Rattle.mg_heard.specs.declared.entry.Entry.TheVariants as entries
use Rattle.mg_heard.specs.declared.moment.Moment.{Moment}
use Rattle.mg_heard.specs.declared.open_flow.OpenFlow.{OpenFlow}
use Rattle.mg_heard.specs.declared.open_interval.OpenInterval.{OpenInterval}
use Rattle.mg_heard.specs.Intervals.{ended, newest}
use Rattle.mg_heard.specs.Moments.{AreMoments}
use Rattle.mg_heard.specs.Times.{tick_count}
use Rattle.mg_heard.specs.Told.{audible_in, intervals_in}
use Rattle.mg_heard.specs.aids.Opening.{AreLasting}
use Rattle.mg_heard.specs.aids.Timing.{AreBegun, IsClock, Timed}

-- The entry that reports a stored interval with this end.
abbrev pub entry_until : Option Moment → OpenInterval → Entry
entry_until end x = entries.Interval (record { flow = x.flow; first = x.first; end = end })

-- The intervals that have not ended in the newest moment of a past are stored, and all others have been reported.
pub record TellsPast (past : List (List OpenFlow)) (stored : List OpenInterval)
    (Told : List Entry → Type 0) : Type 0 where
  pub lasts : AreLasting past stored
  pub xs : List Entry
  pub no_others : audible_in xs ≡ []
  pub ended_are : intervals_in xs ≡ ended past
  pub told : Told xs

-- After these notes, a follower has reported the intervals that had ended before the last tick, and
-- stores those that had not. If nothing can have changed since then, the same flows are open now.
pub record KeepsOpen (base : World) (notes : List Note) (tick : ℕ) (is_changed : Bool)
    (stored : List OpenInterval) (Told : List Entry → Type 0) : Type 0 where
  pub past : List (List OpenFlow)
  pub now : List OpenFlow
  pub are : AreMoments base (events_in notes) (reverse (now ∷ past))
  pub count : tick ≡ length past
  pub same : is_changed ≡ false → now ≡ newest past
  pub tells : TellsPast past stored Told

-- A follower stores and reports the intervals of this past as in `TellsPast`, with the dates and gaps of the notes,
-- which come newest first. All stored and reported moments are before this tick.
pub record TellsTimed (older : List Note) (tick : ℕ) (past : List (List OpenFlow))
    (stored : List OpenInterval) (Told : List Entry → Type 0) : Type 0 where
  pub begun : AreBegun older tick stored
  pub tells : TellsPast past stored (Timed older tick Told)

pub record KeepsHeard (base : World) (notes : List Note) (clock : Clock) (is_changed : Bool)
    (stored : List OpenInterval) (Told : List Entry → Type 0) : Type 0 where
  pub clock_is : IsClock (reverse notes) clock
  pub begun : AreBegun (reverse notes) (tick_count (reverse notes)) stored
  pub opens : KeepsOpen base notes clock.ticks is_changed stored
      (Timed (reverse notes) (tick_count (reverse notes)) Told)
