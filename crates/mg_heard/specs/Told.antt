-- Everything that is reported to a sink about a script: all intervals, with their dates, and all gaps.
use Rattle.std.specs.Prelude.{◌≡◌, ⊤, List, [], ◌∷◌, map, reverse, All, IfSome}
use Rattle.std.specs.Option.{option_map}
use Rattle.mg_core.specs.Note.{Note, events_in}
use Rattle.mg_core.specs.World.{World}
use Rattle.mg_heard.specs.declared.entry.Entry.{Entry}
use Rattle.mg_heard.specs.declared.entry.Entry.TheVariants as entries
use Rattle.mg_heard.specs.declared.extent.Extent.{Extent}
use Rattle.mg_heard.specs.declared.gap.Gap.{Gap}
use Rattle.mg_heard.specs.declared.interval.Interval.{Interval as DatedInterval}
use Rattle.mg_heard.specs.declared.moment.Moment.{Moment}
use Rattle.mg_heard.specs.Intervals.{Interval}
use Rattle.mg_heard.specs.Laws.{AreIntervals, TellsTheFlow}
use Rattle.mg_heard.specs.Times.{date_of_tick, extent_of, gaps_of}

abbrev pub without_dates : DatedInterval → Interval
without_dates x = record {
  flow = x.flow;
  first = x.first.tick;
  end = option_map (λ m. m.tick) x.end;
}

-- Among the entries, the intervals in which a talker could be heard, in order.
abbrev pub heard_in : List Entry → List DatedInterval
heard_in [] = []
heard_in (entries.Interval x ∷ xs) = x ∷ heard_in xs
heard_in (_ ∷ xs) = heard_in xs

abbrev pub intervals_in : List Entry → List Interval
intervals_in xs = map without_dates (heard_in xs)

-- Among the entries, the intervals in which a talker was audible, in order, without their dates.
abbrev pub audible_in : List Entry → List Interval
audible_in [] = []
audible_in (entries.Audible x ∷ xs) = without_dates x ∷ audible_in xs
audible_in (_ ∷ xs) = audible_in xs

-- The gaps among the entries, in order.
abbrev pub gaps_in : List Entry → List Gap
gaps_in [] = []
gaps_in (entries.Gap gap ∷ xs) = gap ∷ gaps_in xs
gaps_in (_ ∷ xs) = gaps_in xs

-- The moment has the date of its tick.
abbrev pub IsDated : List Note → Moment → Type 0
IsDated older m = m.date ≡ date_of_tick older m.tick

-- `P` is true of the first moment of an interval, and of its end if it has one.
abbrev pub HasMoments : (Moment → Type 0) → Entry → Type 0
HasMoments P (entries.Interval x) = P x.first × IfSome x.end P
HasMoments P (entries.Gap gap) = ⊤
HasMoments P (entries.Audible x) = P x.first × IfSome x.end P

-- After a whole script, exactly its intervals and gaps have been reported, in order and each once, and the intervals
-- have the right dates. `Told` is true of these entries, and of the time that the script covers.
pub record TellsAll (base : World) (notes : List Note) (Told : Extent → List Entry → Type 0)
    : Type 0 where
  pub xs : List Entry
  pub no_others : audible_in xs ≡ []
  pub are : AreIntervals base (events_in notes) (intervals_in xs)
  pub flow : TellsTheFlow base (events_in notes) (intervals_in xs)
  pub gaps : gaps_in xs ≡ gaps_of (reverse notes)
  pub dated : All (HasMoments (IsDated (reverse notes))) xs
  pub told : Told (extent_of (reverse notes)) xs
