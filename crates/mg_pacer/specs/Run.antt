-- The lines that a run writes for the readings of its clock, and its waits.
use Rattle.std.specs.Prelude.{◌≡◌, ◌⊎◌, ℕ, ◌+◌, ◌*◌, ◌≤◌, length, List, Option, Result, Ok}
use Rattle.std.specs.Prelude.{Err}
use Rattle.std.specs.Io.KnownBytes.{Appends}
use Rattle.mg_lines.specs.Streams.{WritesFront}
use Rattle.mg_pacer.specs.declared.fault.PaceFault.{PaceFault}
use Rattle.mg_pacer.specs.declared.fault.PaceFault.TheVariants as faults
use Rattle.mg_pacer.specs.declared.options.Options.{Options}
use Rattle.mg_pacer.specs.Pace.{Pace, Paces, start}
use Rattle.mg_clock.specs.Text.{text}
use Rattle.mg_clock.specs.Ticks.{ClockSeen}
use Rattle.mg_pacer.specs.Text.{text_by}

-- The end of a run at this pace. All lines up to this pace were written, including the last requested tick. If the
-- clock failed or was read 2^64 - 1 times, the run ended no later than that tick. If the output was closed, a prefix of
-- these lines was written. A run that skipped no tick reports nothing, unless the clock failed.
abbrev pub RunEnds : ℕ → Pace → (readings waits : ℕ) → (failed silent : Type 0) → Option (List ℕ)
    → Option (List ℕ) → Result (Unit {0}) PaceFault → Type 0
RunEnds wanted p readings waits failed silent old new (Ok done) =
    (readings ≡ waits + 1) × (p.left ≡ 0 → silent) × (wanted * p.polls ≤ p.steps)
    × Appends old new (text_by wanted p)
RunEnds wanted p readings waits failed silent old new (Err faults.Clock) =
    (readings ≡ waits) × (failed ⊎ (readings ≡ 18446744073709551615))
    × (p.steps ≤ wanted * p.polls) × Appends old new (text p.polls p.steps)
RunEnds wanted p readings waits failed silent old new (Err faults.Closed) =
    (readings ≡ waits + 1) × (p.left ≡ 0 → silent) × WritesFront (text_by wanted p) old new

-- A run whose waits and output follow from the clock's readings. A run may end at each of its readings. So nothing is
-- written before the reading at which it is due, and each wait follows its reading.
pub record Paced (options : Options) (failed silent : Type 0) (old new : ClockSeen)
    (held written : Option (List ℕ)) (result : Result (Unit {0}) PaceFault) : Type 0 where
  pub readings : List ℕ
  pub waits : List ℕ
  pub pace : Pace
  pub reports : Appends old.readings new.readings readings
  pub waited : Appends old.waits new.waits waits
  pub paces : Paces (start options.polls) readings waits pace
  pub ends : RunEnds options.ticks pace (length readings) (length waits) failed silent held
      written result
