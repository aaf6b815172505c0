-- The state of a follower, note by note.
use Rattle.std.proofs.Common.{IfSome, ◌≡◌, ◌≢◌, ℕ, ◌+◌, suc, zero, Bool, false, List, [], ◌∷◌, ◌++◌, length, get_or, map, take, Option, Some, None, Result, Ok, Err, OnOk, refl, sym, ap, subst, ◌∙◌, ◌<◌, ◌≤◌, arith}
use Rattle.std.specs.Prelude.{reverse}
use Rattle.std.proofs.lemmas.List.Elements.{All-nil}
use Rattle.std.proofs.lemmas.List.{append-nil, append_assoc, map-append, reverse-append, reverse-reverse, take_all, take_more}
use Rattle.mg_core.specs.declared.event.Event.{Event}
use Rattle.mg_core.specs.declared.event.Event.TheVariants.{Control, Media, Tick}
use Rattle.mg_core.specs.declared.state.CoreState.{CoreState}
use Rattle.mg_core.specs.Counting.{is_tick}
use Rattle.mg_core.specs.Follow.{ticks_of}
use Rattle.mg_core.specs.Base.{IsBase}
use Rattle.mg_core.specs.Note.{Note, Comment, Happened, events_in}
use Rattle.mg_core.specs.World.{World, world_after_tick}
use Rattle.mg_dates.proofs.TimeLemmas.{back_one, back_ticks}
use Rattle.mg_heard.specs.declared.clock.Clock.{Clock}
use Rattle.mg_heard.specs.declared.entry.Entry.{Entry}
use Rattle.mg_heard.specs.declared.entry.Entry.TheVariants as entries
use Rattle.mg_heard.specs.declared.gap.Gap.{Gap}
use Rattle.mg_heard.specs.declared.moment.Moment.{Moment}
use Rattle.mg_heard.specs.declared.open_flow.OpenFlow.{OpenFlow}
use Rattle.mg_heard.specs.declared.open_interval.OpenInterval.{OpenInterval}
use Rattle.mg_heard.specs.Intervals.{Interval, ended, ending, intervals}
use Rattle.mg_heard.specs.Times.{gap_of, moment_after, tick_count}
use Rattle.mg_heard.specs.Told.{audible_in, gaps_in, intervals_in}
use Rattle.mg_heard.specs.aids.Opening.{AreLasting, ended_at, still_open}
use Rattle.mg_heard.specs.aids.Timing.{AreBegun, AreTimed, IsBefore, IsClock, Timed}
use Rattle.mg_heard.proofs.KeepingLemmas.{audible_in_both, events_in_both, intervals_in_both}
use Rattle.mg_heard.proofs.MomentLemmas.{OneOutcome}
use Rattle.mg_heard.proofs.TimingLemmas.{before_next, begun_more, begun_note, begun_ticks, clock_datagram, dated_all, timed_comment, timed_event, timed_gap, timed_intervals, timed_more, timed_start, timed_ticks}
use Rattle.mg_audible.specs.Audible.{AreAudible, RunsWithout, audible_flows}
use Rattle.mg_audible.specs.Laws.{DifferencesAreSpeech}
use Rattle.mg_audible.specs.Told.{TellsAudible}
use Rattle.mg_audible.specs.aids.Keeping.{KeepsAudible, KeepsTimed, LeadsBoth, StandForBoth, TellsPast, entry_until}
use Rattle.mg_audible.proofs.LawLemmas.{tells_differences, tells_speech}
use Rattle.mg_audible.proofs.RunLemmas.{if_tick, run_more}
use Rattle.mg_audible.proofs.StepLemmas.{both_tick}

-- ## Entries

no_others : (end : Option Moment) (xs : List OpenInterval) → intervals_in (map (entry_until end) xs) ≡ []
no_others end [] = refl
no_others end (x ∷ xs) = no_others end xs

still_no_others : (before : List Entry) (end : Option Moment) (xs : List OpenInterval) → intervals_in before ≡ [] →
    intervals_in (before ++ map (entry_until end) xs) ≡ []
still_no_others before end xs h = intervals_in_both before (map (entry_until end) xs)
    ∙ ap (λ (l : List Interval). l ++ intervals_in (map (entry_until end) xs)) h ∙ no_others end xs

told_until : (end : Moment) (xs : List OpenInterval) →
    audible_in (map (entry_until (Some end)) xs) ≡ map (ended_at end.tick) xs
told_until end [] = refl
told_until end (x ∷ xs) = ap (λ (l : List Interval). ended_at end.tick x ∷ l) (told_until end xs)

told_open : (xs : List OpenInterval) → audible_in (map (entry_until None) xs) ≡ map still_open xs
told_open [] = refl
told_open (x ∷ xs) = ap (λ (l : List Interval). still_open x ∷ l) (told_open xs)

-- Reporting the interval at index `i` extends the reported entries by that interval.
pub told_more : (end : Option Moment) (before : List Entry) (xs : List OpenInterval) (i : ℕ) (x : OpenInterval) →
    i < length xs → get_or xs i x ≡ x →
    (before ++ map (entry_until end) (take i xs)) ++ entry_until end x ∷ [] ≡
    before ++ map (entry_until end) (take (i + 1) xs)
told_more end before xs i x within is =
    append_assoc before (map (entry_until end) (take i xs)) (entry_until end x ∷ [])
    ∙ ap (λ (l : List Entry). before ++ l) (sym (map-append (entry_until end) (take i xs) (x ∷ []))
    ∙ ap (λ (l : List OpenInterval). map (entry_until end) l) (ap (λ (y : OpenInterval). take i xs ++ y ∷ []) (sym is)
    ∙ sym (take_more xs i x within)))

pub told_whole : (end : Option Moment) (before : List Entry) (xs : List OpenInterval) (i : ℕ) → length xs ≤ i →
    before ++ map (entry_until end) (take i xs) ≡ before ++ map (entry_until end) xs
told_whole end before xs i all = ap (λ (l : List OpenInterval). before ++ map (entry_until end) l) (take_all i xs all)

-- ## The start of a script

pub keeps_start : (base : World) (talker : ℕ) (whole without : CoreState) (tick : ℕ) (stored : List OpenInterval)
    (Told : List Entry → Type 0) → StandForBoth whole without base base → tick ≡ 0 →
    stored ≡ [] → Told [] → KeepsAudible base talker [] whole without tick stored Told
unfolding ended
keeps_start base talker whole without tick stored Told stand none empty told = record {
  past = [];
  v = base;
  w = base;
  runs = (refl, refl, refl);
  stand = stand;
  count = none;
  tells = record {
    lasts = subst (λ (l : List OpenInterval). AreLasting [] l) (sym empty)
        (λ i j d less below. absurd (omega arith), refl);
    xs = [];
    no_others = refl;
    ended_are = refl;
    told = told;
  };
}

-- ## Comments

pub keeps_comment : (base : World) (talker : ℕ) (notes : List Note) (line : List ℕ) (whole without : CoreState)
    (tick next : ℕ) (stored : List OpenInterval) (Told : List Entry → Type 0) → next ≡ tick →
    KeepsAudible base talker notes whole without tick stored Told →
    KeepsAudible base talker (notes ++ Comment line ∷ []) whole without next stored Told
keeps_comment base talker notes line whole without tick next stored Told e h = record {
  past = h.past;
  v = h.v;
  w = h.w;
  runs = subst (λ (l : List Event). RunsWithout talker base base l (reverse h.past) h.v h.w)
      (sym (events_in_both notes (Comment line ∷ []) ∙ append-nil (events_in notes))) h.runs;
  stand = h.stand;
  count = e ∙ h.count;
  tells = h.tells;
}

keeps_gap : (base : World) (talker : ℕ) (notes : List Note) (gap : Gap) (whole without : CoreState) (tick : ℕ)
    (stored : List OpenInterval) (Told ToldNext : List Entry → Type 0) →
    ((before : List Entry) → Told before → ToldNext (before ++ entries.Gap gap ∷ [])) →
    KeepsAudible base talker notes whole without tick stored Told →
    KeepsAudible base talker notes whole without tick stored ToldNext
keeps_gap base talker notes gap whole without tick stored Told ToldNext tells h = record {
  past = h.past;
  v = h.v;
  w = h.w;
  runs = h.runs;
  stand = h.stand;
  count = h.count;
  tells = record {
    lasts = h.tells.lasts;
    xs = h.tells.xs ++ entries.Gap gap ∷ [];
    no_others = intervals_in_both h.tells.xs (entries.Gap gap ∷ []) ∙ append-nil (intervals_in h.tells.xs)
        ∙ h.tells.no_others;
    ended_are = audible_in_both h.tells.xs (entries.Gap gap ∷ []) ∙ append-nil (audible_in h.tells.xs)
        ∙ h.tells.ended_are;
    told = tells h.tells.xs h.tells.told;
  };
}

-- ## Datagrams

no_tick : (event : Event) → event ≢ Tick → is_tick event ≡ false
no_tick (Control source bytes) h = refl
no_tick (Media port source bytes) h = refl
no_tick Tick h = absurd (h refl)

pub keeps_datagram : (base : World) (talker : ℕ) (notes : List Note) (event : Event)
    (whole without whole_after without_after : CoreState) (tick next : ℕ) (stored : List OpenInterval)
    (Told : List Entry → Type 0) → next ≡ tick → event ≢ Tick →
    LeadsBoth talker event whole without whole_after without_after →
    KeepsAudible base talker notes whole without tick stored Told →
    KeepsAudible base talker (notes ++ Happened event ∷ []) whole_after without_after next stored Told
keeps_datagram base talker notes event whole without whole_after without_after tick next stored Told e not leads h =
    let (v, w, step, stand) = leads h.v h.w h.stand in
    let more = run_more talker base base h.v h.w v w (events_in notes) event (reverse h.past) h.runs step in
    let same : reverse h.past ++ if_tick (is_tick event) (audible_flows talker h.v h.w) [] ≡ reverse h.past =
    ap (λ (b : Bool). reverse h.past ++ if_tick b (audible_flows talker h.v h.w) []) (no_tick event not)
    ∙ append-nil (reverse h.past) in
    record {
      past = h.past;
      v = v;
      w = w;
      runs = subst (λ (l : List Event). RunsWithout talker base base l (reverse h.past) v w)
          (sym (events_in_both notes (Happened event ∷ [])))
          (subst (λ (l : List (List OpenFlow)). RunsWithout talker base base (events_in notes ++ event ∷ []) l v w)
          same more);
      stand = stand;
      count = e ∙ h.count;
      tells = h.tells;
    }

-- ## Ticks

pub tells_ended : (past : List (List OpenFlow)) (flows : List OpenFlow) (now : Moment) (stored new over : List OpenInterval)
    (Told ToldNext : List Entry → Type 0) → AreLasting (flows ∷ past) new →
    map (ended_at now.tick) over ≡ ending past flows →
    ((before : List Entry) → Told before → ToldNext (before ++ map (entry_until (Some now)) over)) →
    TellsPast past stored Told → TellsPast (flows ∷ past) new ToldNext
unfolding ended
tells_ended past flows now stored new over Told ToldNext lasts ends tells h = record {
  lasts = lasts;
  xs = h.xs ++ map (entry_until (Some now)) over;
  no_others = still_no_others h.xs (Some now) over h.no_others;
  ended_are = audible_in_both h.xs (map (entry_until (Some now)) over)
      ∙ ap (λ (l : List Interval). l ++ audible_in (map (entry_until (Some now)) over)) h.ended_are
      ∙ ap (λ (l : List Interval). ended past ++ l) (told_until now over ∙ ends);
  told = tells h.xs h.told;
}

pub keeps_tick : (base : World) (talker : ℕ) (notes : List Note)
    (whole without whole_after without_after : CoreState) (tick next : ℕ) (stored new : List OpenInterval)
    (Told ToldNext : List Entry → Type 0) → next ≡ tick + 1 →
    (h : KeepsAudible base talker notes whole without tick stored Told) →
    StandForBoth whole_after without_after (world_after_tick h.v) (world_after_tick h.w) →
    TellsPast (audible_flows talker h.v h.w ∷ h.past) new ToldNext →
    KeepsAudible base talker (notes ++ ticks_of 1) whole_after without_after next new ToldNext
keeps_tick base talker notes whole without whole_after without_after tick next stored new Told ToldNext e h stand tells =
    let flows = audible_flows talker h.v h.w in
    let v = world_after_tick h.v in
    let w = world_after_tick h.w in
    let more = run_more talker base base h.v h.w v w (events_in notes) Tick (reverse h.past) h.runs
    (both_tick talker h.v h.w) in
    record {
      past = flows ∷ h.past;
      v = v;
      w = w;
      runs = subst (λ (l : List Event). RunsWithout talker base base l (reverse (flows ∷ h.past)) v w)
          (sym (events_in_both notes (Happened Tick ∷ [])))
          (subst (λ (l : List (List OpenFlow)). RunsWithout talker base base (events_in notes ++ Tick ∷ []) l v w)
          (sym (reverse-append (flows ∷ []) h.past)) more);
      stand = stand;
      count = let c = h.count in omega (arith, e);
      tells = tells;
    }

-- Appending a tick to `i` ticks gives `i + 1` ticks.
pub ticks_more : (notes : List Note) (i : ℕ) → (notes ++ ticks_of i) ++ ticks_of 1 ≡ notes ++ ticks_of (i + 1)
ticks_more notes i =
    let next : suc i ≡ i + 1 = omega arith in
    append_assoc notes (ticks_of i) (ticks_of 1) ∙ ap (λ (l : List Note). notes ++ l) (last i ∙ ap ticks_of next)
  where
    last : (i : ℕ) → ticks_of i ++ ticks_of 1 ≡ ticks_of (suc i)
    last zero = refl
    last (suc i) = ap (λ (l : List Note). Happened Tick ∷ l) (last i)

-- ## The end of a script

tells_all : (base : World) (talker : ℕ) (notes : List Note) (whole without : CoreState) (tick bound : ℕ)
    (stored : List OpenInterval) (Told ToldNext : List Entry → Type 0) → OneOutcome → DifferencesAreSpeech → IsBase base →
    KeepsAudible base talker notes whole without tick stored Told →
    ((before : List Entry) → Told before →
    Timed (reverse notes) bound ToldNext (before ++ map (entry_until None) stored)) →
    TellsAudible base talker notes ToldNext
tells_all base talker notes whole without tick bound stored Told ToldNext one law start h last =
    let xs = h.tells.xs ++ map (entry_until None) stored in
    let all : audible_in xs ≡ intervals h.past = audible_in_both h.tells.xs (map (entry_until None) stored)
    ∙ ap (λ (l : List Interval). l ++ audible_in (map (entry_until None) stored)) h.tells.ended_are
    ∙ ap (λ (l : List Interval). ended h.past ++ l) (told_open stored ∙ h.tells.lasts.1) in
    let are : AreAudible base talker (events_in notes) (audible_in xs) =
    (reverse h.past, h.v, h.w, h.runs, all ∙ ap intervals (sym (reverse-reverse h.past))) in
    let differ = tells_differences one base talker (events_in notes) (audible_in xs) are in
    let (told, timed) = last h.tells.xs h.tells.told in
    record {
      xs = xs;
      no_others = still_no_others h.tells.xs None stored h.tells.no_others;
      are = are;
      differ = differ;
      speech = tells_speech base talker (events_in notes) (audible_in xs) law start differ;
      gaps = timed.gaps;
      dated = dated_all (reverse notes) bound xs timed;
      told = told;
    }

no_gaps : (end : Option Moment) (xs : List OpenInterval) → gaps_in (map (entry_until end) xs) ≡ []
no_gaps end [] = refl
no_gaps end (x ∷ xs) = no_gaps end xs

timed_until : (older : List Note) (bound : ℕ) (end : Option Moment) (stored : List OpenInterval) (xs : List Entry) →
    IfSome end (IsBefore older bound) → AreBegun older bound stored → AreTimed older bound xs →
    AreTimed older bound (xs ++ map (entry_until end) stored)
timed_until older bound end stored xs ends begun h = timed_intervals older bound (entry_until end) xs stored
    (no_gaps end) (λ x first. (first, ends)) begun h

-- At the end of a script, the intervals that have not ended are reported, unless the sink refuses an interval.
pub tells_all_on : {E : Type 0} (base : World) (talker : ℕ) (notes : List Note) (whole without : CoreState)
    (clock : Clock) (stored : List OpenInterval) (Told ToldNext : List Entry → Type 0) (result : Result (Unit {0}) E) →
    OneOutcome → DifferencesAreSpeech → IsBase base → KeepsTimed base talker notes whole without clock stored Told →
    ((before : List Entry) → Told before → OnOk result (ToldNext (before ++ map (entry_until None) stored))) →
    OnOk result (TellsAudible base talker notes ToldNext)
tells_all_on base talker notes whole without clock stored Told ToldNext (Ok done) one law start h last =
    let older = reverse notes in
    let bound = tick_count older in
    tells_all base talker notes whole without clock.ticks bound stored (Timed older bound Told) ToldNext one law start
    h.keeps (λ before t. (last before t.0, timed_until older bound None stored before tt h.begun t.1))
tells_all_on base talker notes whole without clock stored Told ToldNext (Err error) one law start h last = tt

-- ## The state with dates and gaps

audible_weaker : (base : World) (talker : ℕ) (notes : List Note) (whole without : CoreState) (tick : ℕ)
    (stored : List OpenInterval) (Told Next : List Entry → Type 0) → ((xs : List Entry) → Told xs → Next xs) →
    KeepsAudible base talker notes whole without tick stored Told →
    KeepsAudible base talker notes whole without tick stored Next
audible_weaker base talker notes whole without tick stored Told Next more h = record {
  past = h.past;
  v = h.v;
  w = h.w;
  runs = h.runs;
  stand = h.stand;
  count = h.count;
  tells = record {
    lasts = h.tells.lasts;
    xs = h.tells.xs;
    no_others = h.tells.no_others;
    ended_are = h.tells.ended_are;
    told = more h.tells.xs h.tells.told;
  };
}

-- `KeepsTimed` holds if its parts hold for `older`, which consists of the notes in reverse order.
timed_back : (base : World) (talker : ℕ) (notes older : List Note) (whole without : CoreState) (clock : Clock)
    (stored : List OpenInterval) (Told : List Entry → Type 0) → reverse notes ≡ older → IsClock older clock →
    AreBegun older (tick_count older) stored →
    KeepsAudible base talker notes whole without clock.ticks stored (Timed older (tick_count older) Told) →
    KeepsTimed base talker notes whole without clock stored Told
timed_back base talker notes older whole without clock stored Told back is begun keeps = record {
  clock_is = subst (λ (l : List Note). IsClock l clock) (sym back) is;
  begun = subst (λ (l : List Note). AreBegun l (tick_count l) stored) (sym back) begun;
  keeps = subst (λ (l : List Note). KeepsAudible base talker notes whole without clock.ticks stored
      (Timed l (tick_count l) Told)) (sym back) keeps;
}

pub timed_begins : (base : World) (talker : ℕ) (whole without : CoreState) (clock : Clock) (stored : List OpenInterval)
    (Told : List Entry → Type 0) → StandForBoth whole without base base → IsClock [] clock →
    clock.ticks ≡ 0 → stored ≡ [] → Told [] → KeepsTimed base talker [] whole without clock stored Told
timed_begins base talker whole without clock stored Told stand is none empty told =
    timed_back base talker [] [] whole without clock stored Told refl is
    (subst (AreBegun [] 0) (sym empty) (All-nil (λ x. IsBefore [] 0 x.first)))
    (keeps_start base talker whole without clock.ticks stored (Timed [] 0 Told) stand none empty (told, timed_start))

pub timed_comment_none : (base : World) (talker : ℕ) (notes : List Note) (line : List ℕ) (whole without : CoreState)
    (old new : Clock) (stored : List OpenInterval) (Told : List Entry → Type 0) → new.ticks ≡ old.ticks →
    None ≡ gap_of line (reverse notes) → IsClock (Comment line ∷ reverse notes) new →
    KeepsTimed base talker notes whole without old stored Told →
    KeepsTimed base talker (notes ++ Comment line ∷ []) whole without new stored Told
timed_comment_none base talker notes line whole without old new stored Told same none is h =
    let older = reverse notes in
    timed_back base talker (notes ++ Comment line ∷ []) (Comment line ∷ older) whole without new stored Told
    (back_one notes (Comment line)) is (begun_note (Comment line) older stored h.begun)
    (audible_weaker base talker (notes ++ Comment line ∷ []) whole without new.ticks stored
    (Timed older (tick_count older) Told) (Timed (Comment line ∷ older) (tick_count (Comment line ∷ older)) Told)
    (λ xs t. (t.0, timed_comment older line xs none t.1))
    (keeps_comment base talker notes line whole without old.ticks new.ticks stored
    (Timed older (tick_count older) Told) same h.keeps))

-- After a comment with a gap, `KeepsTimed` still holds, unless the sink refuses the gap.
pub timed_gap_on : {E : Type 0} (base : World) (talker : ℕ) (notes : List Note) (line : List ℕ) (gap : Gap)
    (whole without : CoreState) (old new : Clock) (stored : List OpenInterval) (Told ToldNext : List Entry → Type 0)
    (result : Result (Unit {0}) E) → new.ticks ≡ old.ticks → Some gap ≡ gap_of line (reverse notes) →
    IsClock (Comment line ∷ reverse notes) new →
    ((before : List Entry) → Told before → OnOk result (ToldNext (before ++ entries.Gap gap ∷ []))) →
    KeepsTimed base talker notes whole without old stored Told →
    OnOk result (KeepsTimed base talker (notes ++ Comment line ∷ []) whole without new stored ToldNext)
timed_gap_on base talker notes line gap whole without old new stored Told ToldNext (Ok done) same some is tells h =
    let older = reverse notes in
    timed_back base talker (notes ++ Comment line ∷ []) (Comment line ∷ older) whole without new stored ToldNext
    (back_one notes (Comment line)) is (begun_note (Comment line) older stored h.begun)
    (keeps_gap base talker (notes ++ Comment line ∷ []) gap whole without new.ticks stored
    (Timed older (tick_count older) Told) (Timed (Comment line ∷ older) (tick_count (Comment line ∷ older)) ToldNext)
    (λ before t. (tells before t.0, timed_gap older line gap before some t.1))
    (keeps_comment base talker notes line whole without old.ticks new.ticks stored
    (Timed older (tick_count older) Told) same h.keeps))
timed_gap_on base talker notes line gap whole without old new stored Told ToldNext (Err error) same some is tells h = tt

pub timed_datagram : (base : World) (talker : ℕ) (notes : List Note) (event : Event)
    (whole without whole_after without_after : CoreState) (old new : Clock) (stored : List OpenInterval)
    (Told : List Entry → Type 0) → new.ticks ≡ old.ticks → (IsClock (reverse notes) old → IsClock (reverse notes) new) →
    event ≢ Tick → LeadsBoth talker event whole without whole_after without_after →
    KeepsTimed base talker notes whole without old stored Told →
    KeepsTimed base talker (notes ++ Happened event ∷ []) whole_after without_after new stored Told
timed_datagram base talker notes event whole without whole_after without_after old new stored Told same keeps not leads h =
    let older = reverse notes in
    timed_back base talker (notes ++ Happened event ∷ []) (Happened event ∷ older) whole_after without_after new stored
    Told (back_one notes (Happened event)) (clock_datagram older event new not (keeps h.clock_is))
    (begun_note (Happened event) older stored h.begun)
    (audible_weaker base talker (notes ++ Happened event ∷ []) whole_after without_after new.ticks stored
    (Timed older (tick_count older) Told) (Timed (Happened event ∷ older) (tick_count (Happened event ∷ older)) Told)
    (λ xs t. (t.0, timed_event older event xs t.1))
    (keeps_datagram base talker notes event whole without whole_after without_after old.ticks new.ticks stored
    (Timed older (tick_count older) Told) same not leads h.keeps))

-- After a tick, `KeepsTimed` still holds if the intervals that end with the tick are reported.
pub timed_tick : (base : World) (talker : ℕ) (notes : List Note)
    (whole without whole_after without_after : CoreState) (old next : Clock) (now : Moment)
    (stored new over : List OpenInterval) (Told ToldNext : List Entry → Type 0) → next.ticks ≡ old.ticks + 1 →
    IsClock (ticks_of 1 ++ reverse notes) next → now ≡ moment_after (reverse notes) →
    (h : KeepsTimed base talker notes whole without old stored Told) →
    StandForBoth whole_after without_after (world_after_tick h.keeps.v) (world_after_tick h.keeps.w) →
    AreLasting (audible_flows talker h.keeps.v h.keeps.w ∷ h.keeps.past) new →
    map (ended_at now.tick) over ≡ ending h.keeps.past (audible_flows talker h.keeps.v h.keeps.w) →
    AreBegun (reverse notes) (tick_count (reverse notes) + 1) new →
    AreBegun (reverse notes) (tick_count (reverse notes)) over →
    ((before : List Entry) → Told before → ToldNext (before ++ map (entry_until (Some now)) over)) →
    KeepsTimed base talker (notes ++ ticks_of 1) whole_after without_after next new ToldNext
timed_tick base talker notes whole without whole_after without_after old next now stored new over Told ToldNext sum is
    moment h stand lasts ends begun over_begun tells =
    let older = reverse notes in
    let later = ticks_of 1 ++ older in
    let bound = tick_count older + 1 in
    let flows = audible_flows talker h.keeps.v h.keeps.w in
    let told = tells_ended h.keeps.past flows now stored new over (Timed older (tick_count older) Told)
    (Timed older bound ToldNext) lasts ends
    (λ before t. (
      tells before t.0,
      timed_until older bound (Some now) over before (before_next older now moment) (begun_more older over over_begun)
          (timed_more older before t.1),
    )) h.keeps.tells in
    timed_back base talker (notes ++ ticks_of 1) later whole_after without_after next new ToldNext (back_ticks notes 1) is
    (begun_ticks 0 older new begun)
    (audible_weaker base talker (notes ++ ticks_of 1) whole_after without_after next.ticks new
    (Timed older bound ToldNext) (Timed later (tick_count later) ToldNext) (λ xs t. (t.0, timed_ticks 0 older xs t.1))
    (keeps_tick base talker notes whole without whole_after without_after old.ticks next.ticks stored new
    (Timed older (tick_count older) Told) (Timed older bound ToldNext) sum h.keeps stand told))
