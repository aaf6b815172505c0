-- The times at which a gateway's ticks begin, according to a clock.
use Rattle.std.specs.Prelude.{◌≡◌, ℕ, ◌+◌, ◌*◌, ◌<◌, ◌≤◌, nat_lt, List, [], ◌∷◌, length}
use Rattle.std.specs.Prelude.{Option, if◌then◌else◌}
use Rattle.std.specs.Io.KnownBytes.{Appends}
use Rattle.mg_clock.specs.declared.step.Step.{Step}
use Rattle.mg_clock.specs.declared.step.Step.TheVariants.{Message, Tick}
use Rattle.mg_clock.specs.declared.tick_schedule.TickSchedule.{TickSchedule}
use Rattle.mg_clock.specs.declared.timing.Timing.{Timing}
use Rattle.mg_clock.specs.declared.timing.Timing.TheVariants.{OnTime, Late}
use Rattle.mg_clock.specs.Due.{period, ticks_due}

-- The known readings and waits of a clock.
pub record ClockSeen : Type 0 where
  pub readings : Option (List ℕ)
  pub waits : Option (List ℕ)

abbrev pub clock_seen : Option (List ℕ) → Option (List ℕ) → ClockSeen
clock_seen readings waits = record { readings = readings; waits = waits }

-- The tick with this number is not due at any of these readings. After each reading, the clock waits for the time until
-- the tick is due, unless a message ends the wait earlier.
abbrev pub WaitsForTick : (tick : ℕ) → (readings waits : List ℕ) → Type 0
WaitsForTick tick [] [] = Unit {0}
WaitsForTick tick (t ∷ ts) (d ∷ ds) =
    (t < tick * period) × (t + d ≡ tick * period) × WaitsForTick tick ts ds
WaitsForTick tick readings waits = ⊥

-- The clock was read `count` times, and the tick was not due at any of these readings.
pub record IsReadEarly (tick count : ℕ) (old new : ClockSeen) : Type 0 where
  pub early : List ℕ
  pub waits : List ℕ
  pub waited : WaitsForTick tick early waits
  pub counted : length early ≡ count
  pub readings : Appends old.readings new.readings early
  pub slept : Appends old.waits new.waits waits

-- The clock was read until the tick was due. The tick was due at the last new reading, `now`, and not at the other new
-- readings.
pub record IsReadUntilDue (tick now : ℕ) (old new : ClockSeen) : Type 0 where
  pub count : ℕ
  pub before : Option (List ℕ)
  pub early : IsReadEarly tick count old (clock_seen before new.waits)
  pub last : Appends before new.readings (now ∷ [])
  pub due : tick ≤ ticks_due now

-- Whether a tick that begins at `now` is on time or late. It is late if more than `allowed` later ticks are due too.
abbrev pub timing_of : (tick allowed now : ℕ) → Timing
timing_of tick allowed now = if nat_lt (tick + allowed) (ticks_due now) then Late else OnTime

-- A tick begins at the first new reading at which it is due.
pub record BeginsTick (tick allowed : ℕ) (old new : ClockSeen) (timing : Timing) : Type 0 where
  pub now : ℕ
  pub read : IsReadUntilDue tick now old new
  pub timing_is : timing ≡ timing_of tick allowed now

-- A schedule waits for a step. Either the next tick begins, or a message arrived before the tick was due. At most 20
-- messages are reported before each tick.
abbrev pub StepBegins : TickSchedule → (old new : ClockSeen) → Step → TickSchedule → Type 0
StepBegins s old new (Tick timing) next =
    BeginsTick (s.ticks + 1) s.allowed old new timing
    × (next ≡ record s { ticks = s.ticks + 1; messages = 0 })
StepBegins s old new Message next =
    (count : ℕ) × IsReadEarly (s.ticks + 1) count old new × (s.messages < 20)
    × (next ≡ record s { messages = s.messages + 1 })

-- The steps begin one after another.
abbrev pub StepsBegin : TickSchedule → List Step → (old new : ClockSeen) → TickSchedule → Type 0
StepsBegin s [] old new last = (new ≡ old) × (last ≡ s)
StepsBegin s (step ∷ steps) old new last =
    (mid : ClockSeen) × (next : TickSchedule) × StepBegins s old mid step next
    × StepsBegin next steps mid new last
