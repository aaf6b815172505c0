-- Keeping intervals over ticks and to the end of a script, with dates and gaps.
use Rattle.std.proofs.Common.{IfSome, ◌≡◌, ◌≢◌, ℕ, ◌+◌, suc, zero, Bool, true, false, List, [], ◌∷◌, ◌++◌, map, replicate, Option, Some, None, Result, Ok, Err, IfOk, OnOk, refl, sym, ap, subst, ◌∙◌, arith}
use Rattle.std.specs.Prelude.{reverse}
use Rattle.std.proofs.lemmas.Result.{on_ok_weaker}
use Rattle.std.proofs.lemmas.List.Elements.{All-nil}
use Rattle.std.proofs.lemmas.List.{append-nil, length-append, length-replicate, reverse-append, reverse-reverse}
use Rattle.mg_core.specs.declared.event.Event.{Event}
use Rattle.mg_core.specs.declared.event.Event.TheVariants.{Tick}
use Rattle.mg_core.specs.declared.state.CoreState.{CoreState}
use Rattle.mg_core.specs.Counting.{is_control}
use Rattle.mg_core.specs.Follow.{HasRun, IsFollowed, ticks_of}
use Rattle.mg_core.specs.Note.{Note, Comment, Happened, events_in}
use Rattle.mg_core.specs.Step.{Packet, Run, Sent}
use Rattle.mg_core.specs.World.{World, packets_of, world_after_tick}
use Rattle.mg_dates.proofs.TimeLemmas.{back_one, back_ticks}
use Rattle.mg_heard.specs.declared.clock.Clock.{Clock}
use Rattle.mg_heard.specs.declared.entry.Entry.{Entry}
use Rattle.mg_heard.specs.declared.entry.Entry.TheVariants as entries
use Rattle.mg_heard.specs.declared.extent.Extent.{Extent}
use Rattle.mg_heard.specs.declared.gap.Gap.{Gap}
use Rattle.mg_heard.specs.declared.moment.Moment.{Moment}
use Rattle.mg_heard.specs.declared.open_flow.OpenFlow.{OpenFlow}
use Rattle.mg_heard.specs.declared.open_interval.OpenInterval.{OpenInterval}
use Rattle.mg_heard.specs.Intervals.{Interval, ended, ending, intervals, lasting, newest}
use Rattle.mg_heard.specs.Laws.{AreIntervals, TellsTheFlow}
use Rattle.mg_heard.specs.aids.Changes.{EqualMomentsTellNothing, OnlyControlChangesFlows}
use Rattle.mg_heard.specs.Moments.{AreMoments}
use Rattle.mg_heard.specs.OpenFlows.{open_flows}
use Rattle.mg_heard.specs.Times.{extent_of, gap_of, moment_after, tick_count}
use Rattle.mg_heard.specs.Told.{TellsAll, gaps_in, intervals_in}
use Rattle.mg_heard.specs.aids.Keeping.{KeepsHeard, KeepsOpen, TellsPast, TellsTimed, entry_until}
use Rattle.mg_heard.specs.aids.Timing.{AreBegun, AreTimed, IsBefore, IsClock, Timed}
use Rattle.mg_heard.specs.aids.Opening.{AreLasting, ended_at}
use Rattle.mg_heard.proofs.MomentLemmas.{OneOutcome}
use Rattle.mg_heard.proofs.TimingLemmas.{before_next, begun_more, begun_note, begun_ticks, clock_datagram, dated_all, timed_comment, timed_event, timed_gap, timed_intervals, timed_more, timed_on, timed_start, timed_ticks}
use Rattle.mg_heard.proofs.KeepingLemmas.{events_with_ticks, extends, intervals_in_both, keeps_comment, keeps_datagram, keeps_gap, keeps_start, none_audible, now_is, still_none, tells_ended_on, tells_same, told_open}

-- ## Ticks

pub tick_moments : OnlyControlChangesFlows → (n : ℕ) (w : World) (flows : List OpenFlow) → flows ≡ open_flows w.gateway →
    AreMoments w (replicate n Tick) (replicate n flows ++ flows ∷ [])
tick_moments only zero w flows e = ap (λ (l : List OpenFlow). l ∷ []) e
tick_moments only (suc n) w flows e = (
  map Packet (packets_of w),
  world_after_tick w,
  replicate n flows ++ flows ∷ [],
  (refl, refl),
  tick_moments only n (world_after_tick w) flows
      (e ∙ sym (only w (world_after_tick w) Tick (map Packet (packets_of w)) refl (refl, refl))),
  ap (λ (l : List OpenFlow). l ∷ (replicate n flows ++ flows ∷ [])) e,
)

same_back : (n : ℕ) (flows : List OpenFlow) (past : List (List OpenFlow)) →
    replicate (suc n) flows ++ past ≡ replicate n flows ++ flows ∷ past
same_back zero flows past = refl
same_back (suc n) flows past = ap (λ (l : List (List OpenFlow)). flows ∷ l) (same_back n flows past)

pub same_reversed : (n : ℕ) (flows : List OpenFlow) → reverse (replicate n flows) ≡ replicate n flows
same_reversed zero flows = refl
same_reversed (suc n) flows = reverse-append (flows ∷ []) (replicate n flows)
    ∙ ap (λ (l : List (List OpenFlow)). l ++ flows ∷ []) (same_reversed n flows)
    ∙ sym (same_back n flows []) ∙ append-nil (replicate (suc n) flows)

pub back_to_front : (n : ℕ) (flows : List OpenFlow) (past : List (List OpenFlow)) →
    reverse past ++ (replicate n flows ++ flows ∷ []) ≡ reverse (flows ∷ (replicate n flows ++ past))
back_to_front n flows past =
    ap (λ (l : List (List OpenFlow)). reverse past ++ l)
    (sym (same_back n flows []) ∙ append-nil (replicate (suc n) flows) ∙ sym (same_reversed (suc n) flows))
    ∙ sym (reverse-append (replicate (suc n) flows) past)

keeps_ticks : OneOutcome → OnlyControlChangesFlows → EqualMomentsTellNothing → (base : World)
    (notes : List Note) (tick next n : ℕ) (is_changed will_change : Bool) (stored new : List OpenInterval)
    (Told ToldNext : List Entry → Type 0) (sent : List Sent) (w : World) → next ≡ tick + suc n →
    Run base (events_in notes) sent w → (h : KeepsOpen base notes tick is_changed stored Told) →
    TellsPast (open_flows w.gateway ∷ h.past) new ToldNext →
    KeepsOpen base (notes ++ ticks_of (suc n)) next will_change new ToldNext
keeps_ticks one only equal base notes tick next n is_changed will_change stored new Told ToldNext sent w sum run h tells =
    let flows = open_flows w.gateway in
    let e = extends one base w (events_in notes) (replicate (suc n) Tick) sent h.now h.past
    (replicate (suc n) flows ++ flows ∷ []) run h.are (tick_moments only (suc n) w flows refl) in
    let same = equal flows h.past n in
    let back = same_back n flows h.past in
    record {
      past = replicate (suc n) flows ++ h.past;
      now = flows;
      are = subst (λ (l : List Event). AreMoments base l (reverse (flows ∷ (replicate (suc n) flows ++ h.past))))
          (sym (events_with_ticks notes (suc n)))
          (subst (λ (l : List (List OpenFlow)). AreMoments base (events_in notes ++ replicate (suc n) Tick) l)
          (back_to_front (suc n) flows h.past) e.are);
      count = let k = h.count in omega (arith, length-append (replicate (suc n) flows) h.past, length-replicate (suc n) flows);
      same = λ k. refl;
      tells = record {
        lasts = (tells.lasts.0, tells.lasts.1 ∙ sym same.1 ∙ ap lasting (sym back));
        xs = tells.xs;
        no_others = tells.no_others;
        ended_are = tells.ended_are ∙ sym same.0 ∙ ap ended (sym back);
        told = tells.told;
      };
    }

pub keeps_some_ticks : OneOutcome → OnlyControlChangesFlows → EqualMomentsTellNothing → (base : World)
    (notes : List Note) (tick next count : ℕ) (is_changed will_change : Bool) (stored new : List OpenInterval)
    (Told ToldNext : List Entry → Type 0) (sent : List Sent) (w : World) → count ≢ 0 → next ≡ tick + count →
    Run base (events_in notes) sent w → (h : KeepsOpen base notes tick is_changed stored Told) →
    TellsPast (open_flows w.gateway ∷ h.past) new ToldNext →
    KeepsOpen base (notes ++ ticks_of count) next will_change new ToldNext
keeps_some_ticks one only equal base notes tick next zero is_changed will_change stored new Told ToldNext sent w some sum
    run h tells = absurd (some refl)
keeps_some_ticks one only equal base notes tick next (suc n) is_changed will_change stored new Told ToldNext sent w some
    sum run h tells =
    keeps_ticks one only equal base notes tick next n is_changed will_change stored new Told ToldNext sent w sum run h tells

pub keeps_no_tick : (base : World) (notes : List Note) (tick count : ℕ) (is_changed : Bool)
    (stored : List OpenInterval) (Told : List Entry → Type 0) → count ≡ 0 →
    KeepsOpen base notes tick is_changed stored Told →
    KeepsOpen base (notes ++ ticks_of count) tick is_changed stored Told
keeps_no_tick base notes tick count is_changed stored Told none h =
    subst (λ (l : List Note). KeepsOpen base l tick is_changed stored Told)
    (sym (append-nil notes) ∙ ap (λ (n : ℕ). notes ++ ticks_of n) (sym none)) h

-- ## The end of a script

abbrev TellTheFlow : Type 0
TellTheFlow = (base : World) (events : List Event) (ys : List Interval) → AreIntervals base events ys →
    TellsTheFlow base events ys

pub tells_all : OneOutcome → TellTheFlow → (base : World) (notes : List Note) (tick bound : ℕ)
    (is_changed : Bool) (stored new : List OpenInterval) (Told ToldNow ToldNext : List Entry → Type 0)
    (sent : List Sent) (w : World) → Run base (events_in notes) sent w →
    (h : KeepsOpen base notes tick is_changed stored Told) → TellsPast (open_flows w.gateway ∷ h.past) new ToldNow →
    ((before : List Entry) → ToldNow before → Timed (reverse notes) bound ToldNext (before ++ map (entry_until None) new)) →
    TellsAll base notes (λ _. ToldNext)
tells_all one law base notes tick bound is_changed stored new Told ToldNow ToldNext sent w run h tells last =
    let flows = open_flows w.gateway in
    let now = now_is one base notes tick is_changed stored Told sent w run h in
    let xs = tells.xs ++ map (entry_until None) new in
    let all : intervals_in xs ≡ intervals (flows ∷ h.past) = intervals_in_both tells.xs (map (entry_until None) new)
    ∙ ap (λ (l : List Interval). l ++ intervals_in (map (entry_until None) new)) tells.ended_are
    ∙ ap (λ (l : List Interval). ended (flows ∷ h.past) ++ l) (told_open new ∙ tells.lasts.1) in
    let are : AreIntervals base (events_in notes) (intervals_in xs) = (
      reverse (h.now ∷ h.past),
      h.are,
      all ∙ ap (λ (l : List OpenFlow). intervals (l ∷ h.past)) (sym now)
          ∙ ap intervals (sym (reverse-reverse (h.now ∷ h.past))),
    ) in
    let (told, timed) = last tells.xs tells.told in
    record {
      xs = xs;
      no_others = still_none tells.xs (map (entry_until None) new) tells.no_others (none_audible None new);
      are = are;
      flow = law base (events_in notes) (intervals_in xs) are;
      gaps = timed.gaps;
      dated = dated_all (reverse notes) bound xs timed;
      told = told;
    }

-- At the end of a script, all its intervals have been reported, unless the sink refused an interval.
pub tells_all_on : {E : Type 0} → OneOutcome → TellTheFlow → (base : World) (notes : List Note) (tick bound : ℕ)
    (is_changed : Bool) (stored new : List OpenInterval) (Told ToldNow ToldNext : List Entry → Type 0)
    (sent : List Sent) (w : World) (result : Result (Unit {0}) E) → Run base (events_in notes) sent w →
    (h : KeepsOpen base notes tick is_changed stored Told) → TellsPast (open_flows w.gateway ∷ h.past) new ToldNow →
    ((before : List Entry) → ToldNow before →
    OnOk result (Timed (reverse notes) bound ToldNext (before ++ map (entry_until None) new))) →
    OnOk result (TellsAll base notes (λ _. ToldNext))
tells_all_on one law base notes tick bound is_changed stored new Told ToldNow ToldNext sent w (Ok done) run h tells last =
    tells_all one law base notes tick bound is_changed stored new Told ToldNow ToldNext sent w run h tells last
tells_all_on one law base notes tick bound is_changed stored new Told ToldNow ToldNext sent w (Err error) run h tells last = tt

-- `TellsAll` still holds if `P` is replaced by a `Q` that `P` implies.
pub tells_weaker : (base : World) (notes : List Note) (P Q : Extent → List Entry → Type 0) →
    ((xs : List Entry) → P (extent_of (reverse notes)) xs → Q (extent_of (reverse notes)) xs) →
    TellsAll base notes P → TellsAll base notes Q
tells_weaker base notes P Q more h = record {
  xs = h.xs;
  no_others = h.no_others;
  are = h.are;
  flow = h.flow;
  gaps = h.gaps;
  dated = h.dated;
  told = more h.xs h.told;
}

-- If a script was followed to its end, the result holds for all its notes, unless the sink refused an interval.
pub tells_followed : {A E : Type 0} (base : World) (input rest : Option (List ℕ)) (state : CoreState)
    (Follows : List Note → Type 0) (Holds : A → List Note → Type 0) (result : Result A E) →
    IsFollowed base input rest state Follows →
    ((notes : List Note) → HasRun base notes state → Follows notes → IfOk result (λ ended. Holds ended notes)) →
    IfOk result (λ heard. (s : CoreState) × IsFollowed base input rest s (Holds heard))
tells_followed base input rest state Follows Holds (Ok ended) h holds = (
  state,
  record {
    script = h.script;
    read = h.read;
    notes = h.notes;
    are = h.are;
    run = h.run;
    follows = holds h.notes h.run h.follows;
  },
)
tells_followed base input rest state Follows Holds (Err error) h holds = tt

-- ## The state with dates and gaps

past_weaker : (past : List (List OpenFlow)) (stored : List OpenInterval) (Told Next : List Entry → Type 0) →
    ((xs : List Entry) → Told xs → Next xs) → TellsPast past stored Told → TellsPast past stored Next
past_weaker past stored Told Next more h = record {
  lasts = h.lasts;
  xs = h.xs;
  no_others = h.no_others;
  ended_are = h.ended_are;
  told = more h.xs h.told;
}

open_weaker : (base : World) (notes : List Note) (tick : ℕ) (is_changed : Bool) (stored : List OpenInterval)
    (Told Next : List Entry → Type 0) → ((xs : List Entry) → Told xs → Next xs) →
    KeepsOpen base notes tick is_changed stored Told → KeepsOpen base notes tick is_changed stored Next
open_weaker base notes tick is_changed stored Told Next more h = record {
  past = h.past;
  now = h.now;
  are = h.are;
  count = h.count;
  same = h.same;
  tells = past_weaker h.past stored Told Next more h.tells;
}

-- `KeepsHeard` holds if its parts hold for `older`, which consists of the notes in reverse order.
heard_back : (base : World) (notes : List Note) (older : List Note) (clock : Clock) (is_changed : Bool)
    (stored : List OpenInterval) (Told : List Entry → Type 0) → reverse notes ≡ older → IsClock older clock →
    AreBegun older (tick_count older) stored →
    KeepsOpen base notes clock.ticks is_changed stored (Timed older (tick_count older) Told) →
    KeepsHeard base notes clock is_changed stored Told
heard_back base notes older clock is_changed stored Told back is begun opens = record {
  clock_is = subst (λ (l : List Note). IsClock l clock) (sym back) is;
  begun = subst (λ (l : List Note). AreBegun l (tick_count l) stored) (sym back) begun;
  opens = subst (λ (l : List Note). KeepsOpen base notes clock.ticks is_changed stored (Timed l (tick_count l) Told))
      (sym back) opens;
}

pub heard_start : (base : World) (clock : Clock) (is_changed : Bool) (stored : List OpenInterval)
    (Told : List Entry → Type 0) → IsClock [] clock → clock.ticks ≡ 0 → is_changed ≡ true → stored ≡ [] → Told [] →
    KeepsHeard base [] clock is_changed stored Told
heard_start base clock is_changed stored Told is none changed empty told =
    heard_back base [] [] clock is_changed stored Told refl is
    (subst (AreBegun [] 0) (sym empty) (All-nil (λ x. IsBefore [] 0 x.first)))
    (keeps_start base clock.ticks is_changed stored (Timed [] 0 Told) none changed empty (told, timed_start))

pub heard_comment : (base : World) (notes : List Note) (line : List ℕ) (old new : Clock) (is_changed : Bool)
    (stored : List OpenInterval) (Told : List Entry → Type 0) → new.ticks ≡ old.ticks →
    None ≡ gap_of line (reverse notes) → IsClock (Comment line ∷ reverse notes) new →
    KeepsHeard base notes old is_changed stored Told →
    KeepsHeard base (notes ++ Comment line ∷ []) new is_changed stored Told
heard_comment base notes line old new is_changed stored Told same none is h =
    let older = reverse notes in
    heard_back base (notes ++ Comment line ∷ []) (Comment line ∷ older) new is_changed stored Told
    (back_one notes (Comment line)) is (begun_note (Comment line) older stored h.begun)
    (open_weaker base (notes ++ Comment line ∷ []) new.ticks is_changed stored (Timed older (tick_count older) Told)
    (Timed (Comment line ∷ older) (tick_count (Comment line ∷ older)) Told)
    (λ xs t. (t.0, timed_comment older line xs none t.1))
    (keeps_comment base notes line old.ticks new.ticks is_changed stored (Timed older (tick_count older) Told) same
    h.opens))

-- After a comment with a gap, `KeepsHeard` still holds, unless the sink refuses the gap.
pub heard_gap_on : {E : Type 0} (base : World) (notes : List Note) (line : List ℕ) (gap : Gap) (old new : Clock)
    (is_changed : Bool) (stored : List OpenInterval) (Told ToldNext : List Entry → Type 0)
    (result : Result (Unit {0}) E) → new.ticks ≡ old.ticks → Some gap ≡ gap_of line (reverse notes) →
    IsClock (Comment line ∷ reverse notes) new →
    ((before : List Entry) → Told before → OnOk result (ToldNext (before ++ entries.Gap gap ∷ []))) →
    KeepsHeard base notes old is_changed stored Told →
    OnOk result (KeepsHeard base (notes ++ Comment line ∷ []) new is_changed stored ToldNext)
heard_gap_on base notes line gap old new is_changed stored Told ToldNext (Ok done) same some is tells h =
    let older = reverse notes in
    heard_back base (notes ++ Comment line ∷ []) (Comment line ∷ older) new is_changed stored ToldNext
    (back_one notes (Comment line)) is (begun_note (Comment line) older stored h.begun)
    (keeps_gap base (notes ++ Comment line ∷ []) gap new.ticks is_changed stored (Timed older (tick_count older) Told)
    (Timed (Comment line ∷ older) (tick_count (Comment line ∷ older)) ToldNext)
    (λ before t. (tells before t.0, timed_gap older line gap before some t.1))
    (keeps_comment base notes line old.ticks new.ticks is_changed stored (Timed older (tick_count older) Told) same
    h.opens))
heard_gap_on base notes line gap old new is_changed stored Told ToldNext (Err error) same some is tells h = tt

pub heard_datagram : OneOutcome → OnlyControlChangesFlows → (base : World) (notes : List Note) (event : Event)
    (old new : Clock) (is_changed will_change : Bool) (stored : List OpenInterval) (Told : List Entry → Type 0)
    (state : CoreState) → new.ticks ≡ old.ticks → (IsClock (reverse notes) old → IsClock (reverse notes) new) →
    event ≢ Tick → (will_change ≡ false → (is_control event ≡ false) × (is_changed ≡ false)) →
    HasRun base (notes ++ Happened event ∷ []) state → KeepsHeard base notes old is_changed stored Told →
    KeepsHeard base (notes ++ Happened event ∷ []) new will_change stored Told
heard_datagram one only base notes event old new is_changed will_change stored Told state same keeps not changes run h =
    let older = reverse notes in
    heard_back base (notes ++ Happened event ∷ []) (Happened event ∷ older) new will_change stored Told
    (back_one notes (Happened event)) (clock_datagram older event new not (keeps h.clock_is))
    (begun_note (Happened event) older stored h.begun)
    (open_weaker base (notes ++ Happened event ∷ []) new.ticks will_change stored (Timed older (tick_count older) Told)
    (Timed (Happened event ∷ older) (tick_count (Happened event ∷ older)) Told)
    (λ xs t. (t.0, timed_event older event xs t.1))
    (keeps_datagram one only base notes event old.ticks new.ticks is_changed will_change stored
    (Timed older (tick_count older) Told) state same not changes run h.opens))

pub heard_ticks : OneOutcome → OnlyControlChangesFlows → EqualMomentsTellNothing → (base : World)
    (notes : List Note) (old next : Clock) (count : ℕ) (is_changed will_change : Bool) (stored new : List OpenInterval)
    (Told ToldNext : List Entry → Type 0) (sent : List Sent) (w : World) → count ≢ 0 → next.ticks ≡ old.ticks + count →
    IsClock (ticks_of count ++ reverse notes) next → Run base (events_in notes) sent w →
    (h : KeepsHeard base notes old is_changed stored Told) →
    TellsTimed (reverse notes) (tick_count (reverse notes) + 1) (open_flows w.gateway ∷ h.opens.past) new ToldNext →
    KeepsHeard base (notes ++ ticks_of count) next will_change new ToldNext
heard_ticks one only equal base notes old next zero is_changed will_change stored new Told ToldNext sent w some sum is run
    h tells = absurd (some refl)
heard_ticks one only equal base notes old next (suc n) is_changed will_change stored new Told ToldNext sent w some sum is
    run h tells =
    let older = reverse notes in
    let later = ticks_of (suc n) ++ older in
    heard_back base (notes ++ ticks_of (suc n)) later next will_change new ToldNext (back_ticks notes (suc n)) is
    (begun_ticks n older new tells.begun)
    (open_weaker base (notes ++ ticks_of (suc n)) next.ticks will_change new
    (Timed older (tick_count older + 1) ToldNext) (Timed later (tick_count later) ToldNext)
    (λ xs t. (t.0, timed_ticks n older xs t.1))
    (keeps_some_ticks one only equal base notes old.ticks next.ticks (suc n) is_changed will_change stored new
    (Timed older (tick_count older) Told) (Timed older (tick_count older + 1) ToldNext) sent w some sum run h.opens
    tells.tells))

pub heard_no_tick : (base : World) (notes : List Note) (clock : Clock) (count : ℕ) (is_changed : Bool)
    (stored : List OpenInterval) (Told : List Entry → Type 0) → count ≡ 0 →
    KeepsHeard base notes clock is_changed stored Told →
    KeepsHeard base (notes ++ ticks_of count) clock is_changed stored Told
heard_no_tick base notes clock count is_changed stored Told none h =
    subst (λ (l : List Note). KeepsHeard base l clock is_changed stored Told)
    (sym (append-nil notes) ∙ ap (λ (n : ℕ). notes ++ ticks_of n) (sym none)) h

no_gaps : (end : Option Moment) (xs : List OpenInterval) → gaps_in (map (entry_until end) xs) ≡ []
no_gaps end [] = refl
no_gaps end (x ∷ xs) = no_gaps end xs

-- After intervals with this end, or without an end, are reported, the reported entries still have the right dates.
pub timed_until : (older : List Note) (end : Option Moment) (stored : List OpenInterval) (xs : List Entry) →
    IfSome end (IsBefore older (tick_count older + 1)) → AreBegun older (tick_count older + 1) stored →
    AreTimed older (tick_count older + 1) xs →
    AreTimed older (tick_count older + 1) (xs ++ map (entry_until end) stored)
timed_until older end stored xs ends begun h = timed_intervals older (tick_count older + 1) (entry_until end) xs stored
    (no_gaps end) (λ x first. (first, ends)) begun h

-- If the open flows stay the same, nothing is reported, and `TellsTimed` still holds.
pub timed_same : EqualMomentsTellNothing → (older : List Note) (past : List (List OpenFlow)) (flows : List OpenFlow)
    (stored : List OpenInterval) (Told : List Entry → Type 0) → flows ≡ newest past →
    TellsTimed older (tick_count older) past stored Told →
    TellsTimed older (tick_count older + 1) (flows ∷ past) stored Told
timed_same equal older past flows stored Told same h = record {
  begun = begun_more older stored h.begun;
  tells = past_weaker (flows ∷ past) stored (Timed older (tick_count older) Told)
      (Timed older (tick_count older + 1) Told) (λ xs t. (t.0, timed_more older xs t.1))
      (tells_same equal past flows stored (Timed older (tick_count older) Told) same h.tells);
}

pub timed_ended_on : {E : Type 0} (older : List Note) (past : List (List OpenFlow)) (flows : List OpenFlow) (now : Moment)
    (stored new over : List OpenInterval) (Told ToldNext : List Entry → Type 0) (result : Result (Unit {0}) E) →
    now ≡ moment_after older → AreLasting (flows ∷ past) new → map (ended_at now.tick) over ≡ ending past flows →
    AreBegun older (tick_count older + 1) new → AreBegun older (tick_count older) over →
    ((before : List Entry) → Told before → OnOk result (ToldNext (before ++ map (entry_until (Some now)) over))) →
    TellsTimed older (tick_count older) past stored Told →
    OnOk result (TellsTimed older (tick_count older + 1) (flows ∷ past) new ToldNext)
timed_ended_on older past flows now stored new over Told ToldNext result is lasts ends begun over_begun tells h =
    on_ok_weaker result (λ told. record { begun = begun; tells = told })
    (tells_ended_on past flows now stored new over (Timed older (tick_count older) Told)
    (Timed older (tick_count older + 1) ToldNext) result lasts ends
    (timed_on older older (tick_count older) (tick_count older + 1) Told ToldNext (map (entry_until (Some now)) over) result
    tells
    (λ before t. timed_until older (Some now) over before (before_next older now is) (begun_more older over over_begun)
    (timed_more older before t)))
    h.tells)
