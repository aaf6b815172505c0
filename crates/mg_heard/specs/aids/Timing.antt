-- The state of a clock while a script runs, and the moments that were reported. Notes come newest first.
use Rattle.std.specs.Prelude.{◌≡◌, ℕ, ◌<◌, List, All}
use Rattle.mg_core.specs.Note.{Note}
use Rattle.mg_dates.specs.Times.{timeline_of}
use Rattle.mg_heard.specs.declared.clock.Clock.{Clock}
use Rattle.mg_heard.specs.declared.entry.Entry.{Entry}
use Rattle.mg_heard.specs.declared.moment.Moment.{Moment}
use Rattle.mg_heard.specs.declared.open_interval.OpenInterval.{OpenInterval}
use Rattle.mg_heard.specs.Times.{first_dated, gaps_of, tick_count}
use Rattle.mg_heard.specs.Told.{HasMoments, IsDated, gaps_in}

-- The state of a clock that has passed these notes.
pub record IsClock (older : List Note) (clock : Clock) : Type 0 where
  pub ticks : clock.ticks ≡ tick_count older
  pub timeline : clock.timeline ≡ timeline_of older
  pub first : clock.first ≡ first_dated older

-- The moment is before this tick, and it has the right date.
abbrev pub IsBefore : List Note → ℕ → Moment → Type 0
IsBefore older tick m = (m.tick < tick) × IsDated older m

-- The stored intervals began before this tick, and their beginnings have the right dates.
abbrev pub AreBegun : List Note → ℕ → List OpenInterval → Type 0
AreBegun older tick stored = All (λ x. IsBefore older tick x.first) stored

-- The gaps among these entries are those of the notes, and all moments of the intervals are before the tick and have
-- the right dates.
pub record AreTimed (older : List Note) (tick : ℕ) (xs : List Entry) : Type 0 where
  pub gaps : gaps_in xs ≡ gaps_of older
  pub dated : All (HasMoments (IsBefore older tick)) xs

-- The entries were reported, with the gaps and dates of the notes.
abbrev pub Timed : List Note → ℕ → (List Entry → Type 0) → List Entry → Type 0
Timed older tick Told xs = Told xs × AreTimed older tick xs
