-- The times at which polls and ticks are due, in nanoseconds since the start.
use Rattle.std.specs.Prelude.{ℕ, ◌+◌, ◌*◌, ◌/◌, ◌<◌, ◌≤◌}

-- The time from one tick to the next: 20 ms.
abbrev pub period : ℕ
period = 20000000

-- The number of ticks due by a given time. The k-th tick is due k * 20 ms after the start.
abbrev pub ticks_due : ℕ → ℕ
ticks_due t = t / period

-- The number of steps due by a given time, with this many polls per 20 ms. The j-th step is due at exactly j * 20 ms /
-- polls. A step is a poll, and the last step of each 20 ms is also a tick.
abbrev pub steps_due : ℕ → ℕ → ℕ
steps_due polls t = t * polls / period

-- At time `t`, the step after the first `before` steps is due in `d`, and not earlier.
pub record IsTimeTo (polls before t d : ℕ) : Type 0 where
  pub enough : before < steps_due polls (t + d)
  pub no_longer : (u : ℕ) → t ≤ u → u < t + d → steps_due polls u ≤ before
