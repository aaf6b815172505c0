-- How moments, gaps and dates change with more notes, which come newest first.
use Rattle.std.proofs.Common.{◌≡◌, ◌≢◌, ℕ, ◌+◌, ◌<◌, ◌≤◌, ◌⊎◌, inl, inr, suc, zero, cond, List, [], ◌∷◌, ◌++◌, nat_lt, Option, Some, None, Result, Ok, Err, OnOk, IfOk, All, IfSome, map, refl, sym, ap, ◌∙◌, arith}
use Rattle.std.specs.Prelude.{option_to_list}
use Rattle.std.specs.Option.{option_map, option_map_or, option_or}
use Rattle.std.proofs.lemmas.Bool.{le-ltb, lt-ltb}
use Rattle.std.proofs.lemmas.List.{append-nil}
use Rattle.std.proofs.lemmas.List.Elements.{All-append, All-map, All-weaker}
use Rattle.std.proofs.lemmas.List.Sums.{sum_by-cons}
use Rattle.mg_core.specs.declared.event.Event.{Event}
use Rattle.mg_core.specs.declared.event.Event.TheVariants.{Control, Media, Tick}
use Rattle.mg_core.specs.Counting.{is_tick}
use Rattle.mg_core.specs.Follow.{ticks_of}
use Rattle.mg_core.specs.Note.{Note, Comment, Happened, events_in}
use Rattle.mg_dates.specs.Times.{after_date, after_ticks, agreement_of, date_in, next_tick, timeline_of}
use Rattle.mg_dates.specs.declared.agreement.Agreement.{Agreement}
use Rattle.mg_dates.specs.declared.agreement.Agreement.TheVariants.{Agrees, First, JumpedAhead, WentBack}
use Rattle.mg_dates.specs.declared.date.Date.{Date}
use Rattle.mg_dates.specs.declared.timeline.Timeline.{Timeline}
use Rattle.mg_dates.proofs.TimeLemmas.{timeline_datagram, timeline_ticks}
use Rattle.mg_fence.specs.Reached.{number_set}
use Rattle.mg_heard.specs.declared.clock.Clock.{Clock}
use Rattle.mg_heard.specs.declared.entry.Entry.{Entry}
use Rattle.mg_heard.specs.declared.entry.Entry.TheVariants as entries
use Rattle.mg_heard.specs.declared.gap.Gap.{Gap}
use Rattle.mg_heard.specs.declared.moment.Moment.{Moment}
use Rattle.mg_heard.specs.Times.{date_gap, date_of_tick, fence_gap, first_dated, gap_if, gap_of, gaps_of, is_jump, missed_in, moment_after, tick_count}
use Rattle.mg_heard.specs.declared.open_interval.OpenInterval.{OpenInterval}
use Rattle.mg_heard.specs.Told.{HasMoments, IsDated, gaps_in}
use Rattle.mg_heard.specs.aids.Timing.{AreBegun, AreTimed, IsBefore, IsClock, Timed}

-- ## Counts

pub count_datagram : (older : List Note) (event : Event) → event ≢ Tick → tick_count older ≡ tick_count (Happened event ∷ older)
count_datagram older (Control source bytes) h = refl
count_datagram older (Media port source bytes) h = refl
count_datagram older Tick h = absurd (h refl)

count_tick : (older : List Note) → tick_count (Happened Tick ∷ older) ≡ 1 + tick_count older
count_tick older = sum_by-cons (λ (e : Event). cond (is_tick e) 1 0) Tick (events_in older)

pub count_ticks : (n : ℕ) (older : List Note) → tick_count (ticks_of n ++ older) ≡ tick_count older + n
count_ticks zero older = omega arith
count_ticks (suc n) older =
    let one : tick_count (ticks_of (suc n) ++ older) ≡ 1 + tick_count (ticks_of n ++ older) =
    count_tick (ticks_of n ++ older) in
    omega (arith, one, count_ticks n older)

-- ## Clocks

pub clock_start : (clock : Clock) → clock.ticks ≡ 0 → clock.timeline ≡ record { start = None; ticks = 0 } →
    clock.first ≡ None → IsClock [] clock
unfolding timeline_of first_dated
clock_start clock ticks timeline first = record { ticks = ticks; timeline = timeline; first = first }

first_ticks : (n : ℕ) (older : List Note) → first_dated (ticks_of n ++ older) ≡ first_dated older
unfolding first_dated
first_ticks zero older = refl
first_ticks (suc n) older = first_ticks n older

pub clock_ticks : (older : List Note) (count : ℕ) (old new : Clock) → new.ticks ≡ old.ticks + count →
    new.timeline ≡ after_ticks count old.timeline → new.first ≡ old.first → IsClock older old →
    IsClock (ticks_of count ++ older) new
clock_ticks older count old new ticks timeline first h = record {
  ticks = ticks ∙ ap (λ n. n + count) h.ticks ∙ sym (count_ticks count older);
  timeline = timeline ∙ ap (after_ticks count) h.timeline ∙ sym (timeline_ticks count older);
  first = first ∙ h.first ∙ sym (first_ticks count older);
}

pub moment_ticks : (older : List Note) (count tick : ℕ) (date : Option Date) (timeline : Timeline) (clock : Clock) →
    tick ≡ clock.ticks + count → date ≡ next_tick timeline → timeline ≡ after_ticks count clock.timeline →
    IsClock older clock → record { tick = tick; date = date } ≡ moment_after (ticks_of count ++ older)
moment_ticks older count tick date timeline clock ticks is after h =
    let counted : tick ≡ tick_count (ticks_of count ++ older) =
    ticks ∙ ap (λ n. n + count) h.ticks ∙ sym (count_ticks count older) in
    let dated : date ≡ next_tick (timeline_of (ticks_of count ++ older)) =
    is ∙ ap next_tick (after ∙ ap (after_ticks count) h.timeline ∙ sym (timeline_ticks count older)) in
    λ i. record { tick = counted i; date = dated i }

timeline_date : (older : List Note) (line : List ℕ) (date : Date) → date_in line ≡ Some date →
    timeline_of (Comment line ∷ older) ≡ after_date (timeline_of older) date
unfolding timeline_of
timeline_date older line date is =
    ap (λ (d : Option Date). option_map_or (after_date (timeline_of older)) d (timeline_of older)) is

first_date : (older : List Note) (line : List ℕ) (date : Date) → date_in line ≡ Some date →
    first_dated (Comment line ∷ older) ≡ option_or (first_dated older) (Some (moment_after (Comment line ∷ older)))
unfolding first_dated
first_date older line date is = ap (λ (d : Option Date). option_or (first_dated older)
    (option_map (λ (e : Date). moment_after (Comment line ∷ older)) d)) is

-- After a date, the clock has passed the comment, and `end` is the next moment.
pub clock_date : (older : List Note) (line : List ℕ) (date : Date) (end : Moment) (old new : Clock) →
    date_in line ≡ Some date → new.ticks ≡ old.ticks → new.timeline ≡ after_date old.timeline date →
    end.tick ≡ new.ticks → end.date ≡ next_tick new.timeline →
    new.first ≡ option_or old.first (Some end) → IsClock older old →
    (end ≡ moment_after (Comment line ∷ older)) × IsClock (Comment line ∷ older) new
clock_date older line date end old new is ticks timeline at due first h =
    let after : new.timeline ≡ timeline_of (Comment line ∷ older) =
    timeline ∙ ap (λ (t : Timeline). after_date t date) h.timeline ∙ sym (timeline_date older line date is) in
    let counted : new.ticks ≡ tick_count (Comment line ∷ older) = ticks ∙ h.ticks in
    let moment : end ≡ moment_after (Comment line ∷ older) =
    (λ i. record { tick = (at ∙ counted) i; date = (due ∙ ap next_tick after) i }) in (
      moment,
      record {
        ticks = counted;
        timeline = after;
        first = first ∙ ap (λ (m : Option Moment). option_or m (Some end)) h.first
            ∙ ap (λ (m : Moment). option_or (first_dated older) (Some m)) moment
            ∙ sym (first_date older line date is);
      },
    )

-- The gap that the code finds before a date is the gap of the comment with the date.
pub gap_date : (older : List Note) (line : List ℕ) (date : Date) (first end : Moment) (agreement : Agreement) (old : Clock) →
    date_in line ≡ Some date → agreement ≡ agreement_of (next_tick old.timeline) date →
    first ≡ moment_after older → end ≡ moment_after (Comment line ∷ older) → IsClock older old →
    gap_if (is_jump agreement) first end ≡ gap_of line older
gap_date older line date first end agreement old is agrees begins ends h =
    ap (λ (a : Agreement). gap_if (is_jump a) first end)
    (agrees ∙ ap (λ (t : Timeline). agreement_of (next_tick t) date) h.timeline)
    ∙ (λ i. gap_if (is_jump (agreement_of (next_tick (timeline_of older)) date)) (begins i) (ends i))
    ∙ sym (ap (λ (d : Option Date). option_map_or (λ date. date_gap date line older) d
    (option_map_or
    (λ count. gap_if (nat_lt 0 count) (moment_after older) (moment_after (ticks_of count ++ older)))
    (missed_in line) (option_map (fence_gap (moment_after older)) (number_set line)))) is)

or_none : (m : Option Moment) → m ≡ option_or m None
or_none None = refl
or_none (Some m) = refl

timeline_other : (older : List Note) (line : List ℕ) → date_in line ≡ None → timeline_of older ≡ timeline_of (Comment line ∷ older)
unfolding timeline_of
timeline_other older line none =
    sym (ap (λ (d : Option Date). option_map_or (after_date (timeline_of older)) d (timeline_of older)) none)

first_other : (older : List Note) (line : List ℕ) → date_in line ≡ None → first_dated older ≡ first_dated (Comment line ∷ older)
unfolding first_dated
first_other older line none = or_none (first_dated older) ∙ sym (ap (λ (d : Option Date). option_or (first_dated older)
    (option_map (λ (e : Date). moment_after (Comment line ∷ older)) d)) none)

pub clock_other : (older : List Note) (line : List ℕ) (clock : Clock) → date_in line ≡ None → IsClock older clock →
    IsClock (Comment line ∷ older) clock
clock_other older line clock none h = record {
  ticks = h.ticks;
  timeline = h.timeline ∙ timeline_other older line none;
  first = h.first ∙ first_other older line none;
}

first_event : (older : List Note) (event : Event) → first_dated older ≡ first_dated (Happened event ∷ older)
unfolding first_dated
first_event older event = refl

pub clock_datagram : (older : List Note) (event : Event) (clock : Clock) → event ≢ Tick → IsClock older clock →
    IsClock (Happened event ∷ older) clock
clock_datagram older event clock h k = record {
  ticks = k.ticks ∙ count_datagram older event h;
  timeline = k.timeline ∙ timeline_datagram older event h;
  first = k.first ∙ first_event older event;
}

-- Unless a call fails, the gap that the code finds for a comment without a date is the gap of the comment.
pub gap_missed_if : {E : Type 0} (older : List Note) (line : List ℕ) (missed : Option ℕ) (new : Clock)
    (result : Result (Option Gap) E) → date_in line ≡ None → missed ≡ missed_in line →
    IfOk result (λ gap. gap ≡ option_map_or
    (λ count. gap_if (nat_lt 0 count) (moment_after older) (moment_after (ticks_of count ++ older))) missed
    (option_map (fence_gap (moment_after older)) (number_set line))) →
    IsClock older new →
    IfOk result (λ gap. (gap ≡ gap_of line older) × IsClock (Comment line ∷ older) new)
gap_missed_if older line missed new (Ok gap) none is gaps h =
    let gap_by : Option ℕ → Option Gap = λ m. option_map_or
    (λ count. gap_if (nat_lt 0 count) (moment_after older) (moment_after (ticks_of count ++ older))) m
    (option_map (fence_gap (moment_after older)) (number_set line)) in (
      gaps ∙ ap gap_by is ∙ sym (ap (λ (d : Option Date). option_map_or (λ date. date_gap date line older) d
          (gap_by (missed_in line))) none),
      clock_other older line new none h,
    )
gap_missed_if older line missed new (Err error) none is gaps h = tt

-- ## Dates

-- The date of the next tick is the date that the timeline expects.
pub date_next : (older : List Note) → next_tick (timeline_of older) ≡ date_of_tick older (tick_count older)
unfolding date_of_tick timeline_of
date_next [] = refl
date_next (note ∷ older) = sym (rw (le-ltb (tick_count (note ∷ older)) (tick_count (note ∷ older)) (omega arith)) refl)

-- One more note doesn't change the date of an earlier tick.
date_earlier : (note : Note) (older : List Note) (tick : ℕ) → tick < tick_count (note ∷ older) →
    date_of_tick older tick ≡ date_of_tick (note ∷ older) tick
unfolding date_of_tick
date_earlier note older tick less = sym (rw (lt-ltb tick (tick_count (note ∷ older)) less) refl)

count_note : (note : Note) (older : List Note) → tick_count older ≤ tick_count (note ∷ older)
count_note (Comment line) older = omega arith
count_note (Happened event) older =
    omega (arith, sum_by-cons (λ (e : Event). cond (is_tick e) 1 0) event (events_in older))

pub before_note : (note : Note) (older : List Note) (m : Moment) → IsBefore older (tick_count older) m →
    IsBefore (note ∷ older) (tick_count (note ∷ older)) m
before_note note older m (less, dated) =
    let within : m.tick < tick_count (note ∷ older) = omega (arith, count_note note older, less) in
    (within, dated ∙ date_earlier note older m.tick within)

-- After a tick, a moment that was before the tick or at it is before the next tick.
before_tick : (older : List Note) (m : Moment) → IsBefore older (tick_count older + 1) m →
    IsBefore (Happened Tick ∷ older) (tick_count (Happened Tick ∷ older)) m
before_tick older m (less, dated) =
    let within : m.tick < tick_count (Happened Tick ∷ older) = omega (arith, count_tick older, less) in
    (within, dated ∙ date_earlier (Happened Tick) older m.tick within)

pub before_ticks : (n : ℕ) (older : List Note) (m : Moment) → IsBefore older (tick_count older + 1) m →
    IsBefore (ticks_of (suc n) ++ older) (tick_count (ticks_of (suc n) ++ older)) m
before_ticks zero older m h = before_tick older m h
before_ticks (suc n) older m h =
    before_note (Happened Tick) (ticks_of (suc n) ++ older) m (before_ticks n older m h)

pub before_more : (older : List Note) (m : Moment) → IsBefore older (tick_count older) m →
    IsBefore older (tick_count older + 1) m
before_more older m (less, dated) = (omega (arith, less), dated)

pub before_next : (older : List Note) (m : Moment) → m ≡ moment_after older → IsBefore older (tick_count older + 1) m
before_next older m is = (
  omega (arith, ap (λ (m : Moment). m.tick) is),
  ap (λ (m : Moment). m.date) is ∙ date_next older ∙ ap (date_of_tick older) (sym (ap (λ (m : Moment). m.tick) is)),
)

-- ## Reported moments

pub gaps_in_both : (a b : List Entry) → gaps_in (a ++ b) ≡ gaps_in a ++ gaps_in b
gaps_in_both [] b = refl
gaps_in_both (entries.Interval x ∷ a) b = gaps_in_both a b
gaps_in_both (entries.Gap gap ∷ a) b = ap (λ (l : List Gap). gap ∷ l) (gaps_in_both a b)
gaps_in_both (entries.Audible x ∷ a) b = gaps_in_both a b

end_weaker : (P Q : Moment → Type 0) → ((m : Moment) → P m → Q m) → (end : Option Moment) → IfSome end P → IfSome end Q
end_weaker P Q more None h = tt
end_weaker P Q more (Some m) h = more m h

pub moments_weaker : (P Q : Moment → Type 0) → ((m : Moment) → P m → Q m) → (x : Entry) → HasMoments P x → HasMoments Q x
moments_weaker P Q more (entries.Interval x) (first, end) = (more x.first first, end_weaker P Q more x.end end)
moments_weaker P Q more (entries.Gap gap) h = tt
moments_weaker P Q more (entries.Audible x) (first, end) = (more x.first first, end_weaker P Q more x.end end)

only_gap : (P : Moment → Type 0) (gap : Gap) → All (HasMoments P) (entries.Gap gap ∷ [])
only_gap P gap zero d less = tt
only_gap P gap (suc k) d less = absurd (omega (arith, less))

told_later : (P Q : Moment → Type 0) → ((m : Moment) → P m → Q m) → (xs : List Entry) → All (HasMoments P) xs →
    All (HasMoments Q) xs
told_later P Q more xs h = All-weaker (HasMoments P) (HasMoments Q) (moments_weaker P Q more) xs h

begun_later : (P Q : Moment → Type 0) → ((m : Moment) → P m → Q m) → (stored : List OpenInterval) →
    All (λ x. P x.first) stored → All (λ x. Q x.first) stored
begun_later P Q more stored h = All-weaker (λ x. P x.first) (λ x. Q x.first) (λ x. more x.first) stored h

pub begun_note : (note : Note) (older : List Note) (stored : List OpenInterval) →
    AreBegun older (tick_count older) stored → AreBegun (note ∷ older) (tick_count (note ∷ older)) stored
begun_note note older stored h = begun_later (IsBefore older (tick_count older))
    (IsBefore (note ∷ older) (tick_count (note ∷ older))) (before_note note older) stored h

pub begun_ticks : (n : ℕ) (older : List Note) (stored : List OpenInterval) →
    AreBegun older (tick_count older + 1) stored →
    AreBegun (ticks_of (suc n) ++ older) (tick_count (ticks_of (suc n) ++ older)) stored
begun_ticks n older stored h = begun_later (IsBefore older (tick_count older + 1))
    (IsBefore (ticks_of (suc n) ++ older) (tick_count (ticks_of (suc n) ++ older))) (before_ticks n older) stored h

pub begun_more : (older : List Note) (stored : List OpenInterval) → AreBegun older (tick_count older) stored →
    AreBegun older (tick_count older + 1) stored
begun_more older stored h = begun_later (IsBefore older (tick_count older)) (IsBefore older (tick_count older + 1))
    (before_more older) stored h

gaps_comment : (older : List Note) (line : List ℕ) (gap : Option Gap) → gap ≡ gap_of line older →
    gaps_of older ++ option_to_list gap ≡ gaps_of (Comment line ∷ older)
unfolding gaps_of
gaps_comment older line gap is = ap (λ (g : Option Gap). gaps_of older ++ option_to_list g) is

pub timed_comment : (older : List Note) (line : List ℕ) (xs : List Entry) → None ≡ gap_of line older →
    AreTimed older (tick_count older) xs → AreTimed (Comment line ∷ older) (tick_count (Comment line ∷ older)) xs
timed_comment older line xs is h = record {
  gaps = h.gaps ∙ sym (append-nil (gaps_of older)) ∙ gaps_comment older line None is;
  dated = told_later (IsBefore older (tick_count older))
      (IsBefore (Comment line ∷ older) (tick_count (Comment line ∷ older))) (before_note (Comment line) older) xs h.dated;
}

pub timed_gap : (older : List Note) (line : List ℕ) (gap : Gap) (xs : List Entry) → Some gap ≡ gap_of line older →
    AreTimed older (tick_count older) xs →
    AreTimed (Comment line ∷ older) (tick_count (Comment line ∷ older)) (xs ++ entries.Gap gap ∷ [])
timed_gap older line gap xs is h =
    let P = IsBefore (Comment line ∷ older) (tick_count (Comment line ∷ older)) in
    record {
      gaps = gaps_in_both xs (entries.Gap gap ∷ []) ∙ ap (λ (l : List Gap). l ++ gap ∷ []) h.gaps
          ∙ gaps_comment older line (Some gap) is;
      dated = All-append (HasMoments P) xs (entries.Gap gap ∷ [])
          (told_later (IsBefore older (tick_count older)) P (before_note (Comment line) older) xs h.dated)
          (only_gap P gap);
    }

gaps_event : (older : List Note) (event : Event) → gaps_of older ≡ gaps_of (Happened event ∷ older)
unfolding gaps_of
gaps_event older event = refl

pub timed_event : (older : List Note) (event : Event) (xs : List Entry) →
    AreTimed older (tick_count older) xs → AreTimed (Happened event ∷ older) (tick_count (Happened event ∷ older)) xs
timed_event older event xs h = record {
  gaps = h.gaps ∙ gaps_event older event;
  dated = told_later (IsBefore older (tick_count older))
      (IsBefore (Happened event ∷ older) (tick_count (Happened event ∷ older))) (before_note (Happened event) older) xs h.dated;
}

gaps_ticks : (n : ℕ) (older : List Note) → gaps_of older ≡ gaps_of (ticks_of n ++ older)
unfolding gaps_of
gaps_ticks zero older = refl
gaps_ticks (suc n) older = gaps_ticks n older

pub timed_ticks : (n : ℕ) (older : List Note) (xs : List Entry) → AreTimed older (tick_count older + 1) xs →
    AreTimed (ticks_of (suc n) ++ older) (tick_count (ticks_of (suc n) ++ older)) xs
timed_ticks n older xs h = record {
  gaps = h.gaps ∙ gaps_ticks (suc n) older;
  dated = told_later (IsBefore older (tick_count older + 1))
      (IsBefore (ticks_of (suc n) ++ older) (tick_count (ticks_of (suc n) ++ older))) (before_ticks n older) xs h.dated;
}

pub timed_more : (older : List Note) (xs : List Entry) → AreTimed older (tick_count older) xs →
    AreTimed older (tick_count older + 1) xs
timed_more older xs h = record {
  gaps = h.gaps;
  dated = told_later (IsBefore older (tick_count older)) (IsBefore older (tick_count older + 1)) (before_more older) xs
      h.dated;
}

pub timed_start : AreTimed [] 0 []
unfolding gaps_of
timed_start = record { gaps = refl; dated = λ i d less. absurd (omega (arith, less)) }

pub dated_all : (older : List Note) (tick : ℕ) (xs : List Entry) → AreTimed older tick xs →
    All (HasMoments (IsDated older)) xs
dated_all older tick xs h = told_later (IsBefore older tick) (IsDated older) (λ m b. b.1) xs h.dated

-- If stored intervals are reported as one entry each, the reported entries still have the right gaps and dates.
pub timed_intervals : (older : List Note) (tick : ℕ) (told : OpenInterval → Entry) (xs : List Entry)
    (stored : List OpenInterval) → ((l : List OpenInterval) → gaps_in (map told l) ≡ []) →
    ((x : OpenInterval) → IsBefore older tick x.first → HasMoments (IsBefore older tick) (told x)) →
    AreBegun older tick stored → AreTimed older tick xs → AreTimed older tick (xs ++ map told stored)
timed_intervals older tick told xs stored none each begun h = record {
  gaps = gaps_in_both xs (map told stored) ∙ ap (λ (l : List Gap). gaps_in xs ++ l) (none stored)
      ∙ append-nil (gaps_in xs) ∙ h.gaps;
  dated = All-append (HasMoments (IsBefore older tick)) xs (map told stored) h.dated
      (All-map (HasMoments (IsBefore older tick)) told stored
      (All-weaker (λ x. IsBefore older tick x.first) (λ x. HasMoments (IsBefore older tick) (told x)) each stored begun));
}

-- After more entries with the right gaps and dates are reported, `Timed` still holds, unless the sink refuses an entry.
pub timed_on : {E : Type 0} (older next : List Note) (tick later : ℕ) (Told ToldNext : List Entry → Type 0)
    (more : List Entry) (result : Result (Unit {0}) E) →
    ((before : List Entry) → Told before → OnOk result (ToldNext (before ++ more))) →
    ((before : List Entry) → AreTimed older tick before → AreTimed next later (before ++ more)) →
    (before : List Entry) → Timed older tick Told before → OnOk result (Timed next later ToldNext (before ++ more))
timed_on older next tick later Told ToldNext more (Ok done) tells timed before (told, h) =
    (tells before told, timed before h)
timed_on older next tick later Told ToldNext more (Err error) tells timed before h = tt

-- If the clock went back or jumped ahead, there is a gap.
pub jump : (agreement : Agreement) (first end : Moment) → (agreement ≡ WentBack) ⊎ (agreement ≡ JumpedAhead) →
    Some (record { first = first; end = end; fence = None }) ≡ gap_if (is_jump agreement) first end
jump agreement first end (inl is) = sym (ap (λ (a : Agreement). gap_if (is_jump a) first end) is)
jump agreement first end (inr is) = sym (ap (λ (a : Agreement). gap_if (is_jump a) first end) is)

-- If a date is the first, or agrees with the expected date, there is no gap.
pub no_jump : (agreement : Agreement) (first end : Moment) → (agreement ≡ First) ⊎ (agreement ≡ Agrees) →
    None ≡ gap_if (is_jump agreement) first end
no_jump agreement first end (inl is) = sym (ap (λ (a : Agreement). gap_if (is_jump a) first end) is)
no_jump agreement first end (inr is) = sym (ap (λ (a : Agreement). gap_if (is_jump a) first end) is)
