-- The times of a script's moments, and its gaps, according to its comments. Notes come newest first.
use Rattle.std.specs.Prelude.{ℕ, ◌-◌, ◌&&◌, Bool, true, false, nat_lt, List, [], ◌∷◌, ◌++◌}
use Rattle.std.specs.Prelude.{codes, count_by, drop, length, option_to_list, take, Option, Some, None}
use Rattle.std.specs.Prelude.{if◌then◌else◌}
use Rattle.std.specs.Option.{option_map, option_map_or, option_or}
use Rattle.std.specs.Str.{bytes_eq}
use Rattle.mg_words.specs.Numbers.{decimal_of}
use Rattle.mg_core.specs.Counting.{is_tick}
use Rattle.mg_core.specs.Follow.{ticks_of}
use Rattle.mg_core.specs.Note.{Note, Comment, Happened, events_in}
use Rattle.mg_dates.specs.Times.{agreement_of, date_in, next_tick, timeline_of}
use Rattle.mg_dates.specs.declared.agreement.Agreement.{Agreement}
use Rattle.mg_dates.specs.declared.agreement.Agreement.TheVariants.{JumpedAhead, WentBack}
use Rattle.mg_dates.specs.declared.date.Date.{Date}
use Rattle.mg_fence.specs.Reached.{number_set}
use Rattle.mg_heard.specs.declared.extent.Extent.{Extent}
use Rattle.mg_heard.specs.declared.gap.Gap.{Gap}
use Rattle.mg_heard.specs.declared.moment.Moment.{Moment}

abbrev pub tick_count : List Note → ℕ
tick_count notes = count_by is_tick (events_in notes)

-- The moment that follows all notes.
abbrev pub moment_after : List Note → Moment
moment_after notes = record { tick = tick_count notes; date = next_tick (timeline_of notes) }

-- The date of a tick, which follows from all comments before the tick.
unfoldable pub date_of_tick : List Note → ℕ → Option Date
date_of_tick [] tick = None
date_of_tick (note ∷ older) tick =
    if nat_lt tick (tick_count (note ∷ older)) then date_of_tick older tick
    else next_tick (timeline_of (note ∷ older))

-- ## Gaps

-- The number in a comment such as `# missed 1500 ticks`, if it fits in 64 bits.
abbrev pub missed_in : List ℕ → Option ℕ
missed_in line =
    let rest = drop 9 line in
    if bytes_eq (take 9 line) (codes "# missed ")
    && bytes_eq (drop (length rest - 6) rest) (codes " ticks")
    then decimal_of 20 18446744073709551615 (take (length rest - 6) rest) else None

-- The gap between two moments if `b` is true; otherwise none.
abbrev pub gap_if : Bool → (first end : Moment) → Option Gap
gap_if b first end = if b then Some (record { first = first; end = end; fence = None }) else None

abbrev pub is_jump : Agreement → Bool
is_jump WentBack = true
is_jump JumpedAhead = true
is_jump _ = false

-- The gap before a date that is more than a second earlier or later than expected.
abbrev pub date_gap : Date → List ℕ → List Note → Option Gap
date_gap date line older =
    gap_if (is_jump (agreement_of (next_tick (timeline_of older)) date))
    (moment_after older) (moment_after (Comment line ∷ older))

-- The moment at which an operator set the fence to this number, represented as a gap.
abbrev pub fence_gap : Moment → ℕ → Gap
fence_gap m number = record { first = m; end = m; fence = Some number }

-- The gap of a comment, if it has one. Either the comment has a date that is more than a second earlier or later than
-- expected, or the ticks that follow were missed, or the fence was set.
abbrev pub gap_of : List ℕ → List Note → Option Gap
gap_of line older = option_map_or (λ date. date_gap date line older) (date_in line) (option_map_or
    (λ count. gap_if (nat_lt 0 count) (moment_after older) (moment_after (ticks_of count ++ older)))
    (missed_in line) (option_map (fence_gap (moment_after older)) (number_set line)))

-- All gaps, in order.
unfoldable pub gaps_of : List Note → List Gap
gaps_of [] = []
gaps_of (Comment line ∷ older) = gaps_of older ++ option_to_list (gap_of line older)
gaps_of (Happened event ∷ older) = gaps_of older

-- ## The time that a script covers

-- The moment of the first date.
unfoldable pub first_dated : List Note → Option Moment
first_dated [] = None
first_dated (Comment line ∷ older) =
    option_or (first_dated older)
    (option_map (λ date. moment_after (Comment line ∷ older)) (date_in line))
first_dated (Happened event ∷ older) = first_dated older

abbrev pub extent_of : List Note → Extent
extent_of notes = record { first = first_dated notes; end = moment_after notes }
