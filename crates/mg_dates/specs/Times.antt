-- The times of the ticks of a script, according to the dates in its comments. Lists of notes start with the newest
-- note.
use Rattle.std.specs.Prelude.{ℕ, ◌+◌, ◌*◌, ◌-◌, ◌^◌, ◌&&◌, min, nat_le, List, [], ◌∷◌, codes}
use Rattle.std.specs.Prelude.{take, drop, Option, Some, None, if◌then◌else◌}
use Rattle.std.specs.Option.{option_map, option_map_or}
use Rattle.std.specs.Str.{bytes_eq, is_utf8}
use Rattle.mg_core.specs.Counting.{is_tick}
use Rattle.mg_core.specs.Note.{Note, Comment, Happened}
use Rattle.mg_dates.specs.Dates.{date_of_text, missed_ticks}
use Rattle.mg_dates.specs.declared.agreement.Agreement.{Agreement}
use Rattle.mg_dates.specs.declared.agreement.Agreement.TheVariants.{First, Agrees, WentBack}
use Rattle.mg_dates.specs.declared.agreement.Agreement.TheVariants.{JumpedAhead}
use Rattle.mg_dates.specs.declared.date.Date.{Date}
use Rattle.mg_dates.specs.declared.timeline.Timeline.{Timeline}

-- The date in a comment such as `# time 2026-11-27T14:03:20.5Z`.
abbrev pub date_in : List ℕ → Option Date
date_in line =
    if bytes_eq (take 7 line) (codes "# time ") && is_utf8 (drop 7 line)
    then date_of_text (drop 7 line) else None

-- The number, limited to the greatest 64-bit number.
abbrev pub up_to_limit : ℕ → ℕ
up_to_limit n = min n (2 ^ 64 - 1)

-- The time at which the next tick is due: ticks are 20 ms apart.
abbrev pub next_tick : Timeline → Option Date
next_tick t =
    option_map (λ date. record { millis = up_to_limit (date.millis + 20 * t.ticks) }) t.start

-- How a date compares with the expected date. The two dates agree if they are at most a second apart.
abbrev pub agreement_of : Option Date → Date → Agreement
agreement_of None date = First
agreement_of (Some expected) date =
    if nat_le (expected.millis - date.millis) 1000
    then (if nat_le (date.millis - expected.millis) 1000 then Agrees else JumpedAhead)
    else WentBack

-- The timeline after a date. If the date is the first, or doesn't agree with the ticks before it, the timeline starts
-- again at this date.
abbrev pub with_date : Agreement → Date → Timeline → Timeline
with_date Agrees date t = t
with_date agreement date t = record { start = Some date; ticks = 0 }

abbrev pub after_date : Timeline → Date → Timeline
after_date t date = with_date (agreement_of (next_tick t) date) date t

abbrev pub after_ticks : ℕ → Timeline → Timeline
after_ticks count t = record { start = t.start; ticks = up_to_limit (t.ticks + count) }

-- The timeline after these notes.
unfoldable pub timeline_of : List Note → Timeline
timeline_of [] = record { start = None; ticks = 0 }
timeline_of (Comment line ∷ older) =
    option_map_or (after_date (timeline_of older)) (date_in line) (timeline_of older)
timeline_of (Happened event ∷ older) =
    if is_tick event then after_ticks 1 (timeline_of older) else timeline_of older

-- The number of ticks that were missed up to `now`, or 0 if the timeline has no date.
abbrev pub missed_since : Timeline → Date → ℕ
missed_since t now = option_map_or (λ date. missed_ticks date.millis t.ticks now.millis) t.start 0
