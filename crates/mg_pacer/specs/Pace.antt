-- The due polls and ticks that are written, and the lengths of the waits. Times are in nanoseconds since the start.
use Rattle.std.specs.Prelude.{◌≡◌, ℕ, ◌+◌, ◌*◌, ◌/◌, ◌<◌, ◌≤◌, max, List, [], ◌∷◌}
use Rattle.mg_clock.specs.Due.{IsTimeTo, steps_due}

-- The progress of a run.
pub record Pace : Type 0 where
  -- The number of polls per 20 ms.
  pub polls : ℕ
  -- The number of steps that were written.
  pub steps : ℕ
  -- The number of ticks that were skipped, each with its polls.
  pub left : ℕ

abbrev pub start : ℕ → Pace
start polls = record { polls = polls; steps = 0; left = 0 }

-- The number of steps that were written or skipped.
abbrev pub steps_past : Pace → ℕ
steps_past p = p.steps + p.polls * p.left

-- The number of ticks that were written.
abbrev pub ticks : Pace → ℕ
ticks p = p.steps / p.polls

-- The pace after a reading `t` of the clock.
pub record Advances (old : Pace) (t : ℕ) (new : Pace) : Type 0 where
  pub polls : new.polls ≡ old.polls
  -- All due steps were written or skipped.
  pub all : steps_past new ≡ max (steps_past old) (steps_due old.polls t)
  pub more : (old.steps ≤ new.steps) × (old.left ≤ new.left)
  -- At most 50 ticks are written at once, with their polls.
  pub few : new.steps ≤ old.steps + 50 * old.polls
  -- If a tick was skipped, the steps of more than 49 ticks were written.
  pub needed : old.left < new.left → old.steps + 49 * old.polls < new.steps

-- The wait `d` after a reading `t`: the next step is due at the end of the wait, and no step is due earlier.
abbrev pub Waits : Pace → ℕ → ℕ → Type 0
Waits p t d = IsTimeTo p.polls (steps_past p) t d

-- The pace after these readings, in order, with these waits. There is a wait after each reading, except after a last
-- reading at which the run ends.
abbrev pub Paces : Pace → List ℕ → List ℕ → Pace → Type 0
Paces p [] [] q = q ≡ p
Paces p (t ∷ []) [] q = Advances p t q
Paces p (t ∷ ts) (d ∷ ds) q = (m : Pace) × Advances p t m × Waits m t d × Paces m ts ds q
Paces p readings waits q = ⊥

-- The latest of the readings.
abbrev pub latest : List ℕ → ℕ
latest [] = 0
latest (t ∷ ts) = max t (latest ts)
