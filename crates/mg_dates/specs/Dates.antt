-- Dates in text, and the ticks that a gateway missed while it did not run.
use Rattle.std.specs.Prelude.{ℕ, ◌+◌, ◌*◌, ◌-◌, ◌/◌, nat_lt, ℤ, pos, negsuc, int_div, List, Option}
use Rattle.std.specs.Prelude.{Some, None, Result, Ok, Err, if◌then◌else◌}
use Rattle.jiff.specs.Words.{parse_timestamp}
use Rattle.mg_dates.specs.declared.date.Date.{Date}

-- The date that is this many milliseconds after the beginning of 1970, or `None` if the number is negative.
abbrev pub date_after : ℤ → Option Date
date_after (pos millis) = Some (record { millis = millis })
date_after (negsuc n) = None

-- The date of a point in time that is given in nanoseconds. Fractions of a millisecond are dropped.
abbrev pub date_at : {E : Type 0} → Result ℤ E → Option Date
date_at (Ok nanos) = date_after (int_div nanos (pos 1000000))
date_at (Err error) = None

-- The date that text names, as `jiff` reads the text (RFC 3339, or another offset or form of ISO 8601).
abbrev pub date_of_text : List ℕ → Option Date
date_of_text text = date_at (parse_timestamp text)

-- The number of ticks that have been missed since a date: a tick is due every 20 ms, and `ticks` of them ran. If these ticks
-- took longer than the clock says, the clock was set back, and one second's worth of ticks counts as missed.
abbrev pub missed_ticks : (date ticks now : ℕ) → ℕ
missed_ticks date ticks now =
    if nat_lt now (date + 20 * ticks) then 50 else (now - date) / 20 - ticks
