-- Who could hear whom at a given time.
use Rattle.std.specs.Prelude.{◌&&◌, ◌||◌, not, Bool, false, List, find, Option}
use Rattle.std.specs.Prelude.{is_some, if◌then◌else◌}
use Rattle.std.specs.Option.{option_map_or}
use Rattle.mg_dates.specs.declared.date.Date.{Date}
use Rattle.mg_heard.specs.declared.entry.Entry.{Entry}
use Rattle.mg_heard.specs.declared.extent.Extent.{Extent}
use Rattle.mg_heard.specs.declared.gap.Gap.{Gap}
use Rattle.mg_heard.specs.declared.interval.Interval.{Interval}
use Rattle.mg_heard.specs.declared.moment.Moment.{Moment}
use Rattle.mg_heard.specs.declared.query.Query.{Query}
use Rattle.mg_heard.specs.declared.verdict.Verdict.{Verdict}
use Rattle.mg_heard.specs.declared.verdict.Verdict.TheVariants.{CouldHear, CouldNotHear, Unknown}
use Rattle.mg_heard.specs.Query.{covers, is_future, is_past, selects}
use Rattle.mg_heard.specs.Told.{gaps_in, heard_in}

-- The first interval that the query selects and that contains the time.
abbrev pub heard_at : Query → Date → List Entry → Option Interval
heard_at query time xs = find (λ x. selects query x && covers x time) (heard_in xs)

-- Whether the time is known to lie between these two moments.
abbrev pub is_between : (first end : Moment) → Date → Bool
is_between first end time = is_past false first time && is_future false end time

-- Whether the gap is known to contain the time. If the clock was set back, the gap ends at an earlier date than it
-- begins, and contains the times that the clock showed twice.
abbrev pub is_in_gap : Gap → Date → Bool
is_in_gap gap time = is_between gap.first gap.end time || is_between gap.end gap.first time

-- The first gap that contains the time.
abbrev pub gap_at : Date → List Entry → Option Gap
gap_at time xs = find (λ gap. is_in_gap gap time) (gaps_in xs)

-- Whether the script covers this time: the time is not before the first date, and it is before the end.
abbrev pub is_within : Extent → Date → Bool
is_within extent time =
    option_map_or (λ first. is_past false first time) extent.first false
    && is_future false extent.end time

-- The answer, given the gap and the interval that contain the time, or `None` for either. The script doesn't say who
-- could hear whom in a gap, or outside the time that it covers.
abbrev pub verdict_of : (is_within : Bool) → Option Gap → Option Interval → Verdict
verdict_of is_within gap heard =
    if is_some gap || not is_within then Unknown else option_map_or CouldHear heard CouldNotHear

-- The answer that follows from the entries of a script.
abbrev pub verdict_at : Query → Date → Extent → List Entry → Verdict
verdict_at query time extent xs =
    verdict_of (is_within extent time) (gap_at time xs) (heard_at query time xs)
