-- The state of a follower, note by note.
use Rattle.std.proofs.Common.{◌≡◌, ◌≢◌, ℕ, ◌+◌, suc, zero, Bool, true, false, List, [], ◌∷◌, ◌++◌, ◌<◌, ◌≤◌, length, get_or, map, replicate, take, Option, Some, None, Result, Ok, Err, OnOk, refl, sym, ap, subst, ◌∙◌, arith}
use Rattle.std.specs.Prelude.{reverse}
use Rattle.std.proofs.lemmas.Bool.{true≢false}
use Rattle.std.proofs.lemmas.List.{append-nil, append_assoc, map-append, reverse-append, reverse-reverse, take_all, take_more}
use Rattle.mg_words.specs.declared.peer.Peer.{Peer}
use Rattle.mg_core.specs.declared.event.Event.{Event}
use Rattle.mg_core.specs.declared.event.Event.TheVariants.{Control, Media, Tick}
use Rattle.mg_core.specs.declared.state.CoreState.{CoreState}
use Rattle.mg_core.specs.Counting.{is_control, is_tick}
use Rattle.mg_core.specs.Follow.{HasRun, ticks_of}
use Rattle.mg_core.specs.Note.{Note, Comment, Happened, events_in}
use Rattle.mg_core.specs.Step.{Run, Sent, Step}
use Rattle.mg_core.specs.World.{World}
use Rattle.mg_heard.specs.declared.entry.Entry.{Entry}
use Rattle.mg_heard.specs.declared.entry.Entry.TheVariants as entries
use Rattle.mg_heard.specs.declared.gap.Gap.{Gap}
use Rattle.mg_heard.specs.declared.moment.Moment.{Moment}
use Rattle.mg_heard.specs.declared.open_flow.OpenFlow.{OpenFlow}
use Rattle.mg_heard.specs.declared.open_interval.OpenInterval.{OpenInterval}
use Rattle.mg_heard.specs.Intervals.{Interval, ended, ending, lasting, newest}
use Rattle.mg_heard.specs.aids.Changes.{EqualMomentsTellNothing, OnlyControlChangesFlows}
use Rattle.mg_heard.specs.Moments.{AreMoments}
use Rattle.mg_heard.specs.OpenFlows.{open_flows}
use Rattle.mg_heard.specs.Told.{audible_in, intervals_in, without_dates}
use Rattle.mg_heard.specs.aids.Keeping.{KeepsOpen, TellsPast, entry_until}
use Rattle.mg_heard.specs.aids.Opening.{AreLasting, ended_at, still_open}
use Rattle.mg_heard.proofs.MomentLemmas.{OneOutcome, if_tick}

-- ## Moments of more events

if_tick_append : (b : Bool) (w : World) (xs ys : List (List OpenFlow)) →
    if_tick b w xs ++ ys ≡ if_tick b w (xs ++ ys)
if_tick_append true w xs ys = refl
if_tick_append false w xs ys = refl

-- The last moment is that of the world `w`. If more events follow, the moments before it stay the same.
record Continues (a w : World) (events later : List Event) (moments others : List (List OpenFlow)) : Type 0 where
  before : List (List OpenFlow)
  is : moments ≡ before ++ open_flows w.gateway ∷ []
  are : AreMoments a (events ++ later) (before ++ others)

continues : OneOutcome → (a w : World) (events later : List Event) (sent : List Sent)
    (moments others : List (List OpenFlow)) → Run a events sent w → AreMoments a events moments →
    AreMoments w later others → Continues a w events later moments others
continues one a w [] later sent moments others run are more = record {
  before = [];
  is = are ∙ ap (λ (v : World). open_flows v.gateway ∷ []) (sym run.1);
  are = subst (λ (v : World). AreMoments v later others) run.1 more;
}
continues one a w (e ∷ es) later sent moments others (first, rest, next, step, run, is) (also, after, tail, too, are, its) more =
    let same = (one a e first also next after step too).1 in
    let c = continues one after w es later rest tail others (subst (λ (v : World). Run v es rest w) same run) are more in
    record {
      before = if_tick (is_tick e) a c.before;
      is = its ∙ ap (if_tick (is_tick e) a) c.is ∙ sym (if_tick_append (is_tick e) a c.before (open_flows w.gateway ∷ []));
      are = (also, after, c.before ++ others, too, c.are, if_tick_append (is_tick e) a c.before others);
    }

-- The newest moment is that of the world `w`, and the past stays the same if more events follow.
pub record Extends (a w : World) (events later : List Event) (now : List OpenFlow) (past others : List (List OpenFlow))
    : Type 0 where
  pub is : now ≡ open_flows w.gateway
  pub are : AreMoments a (events ++ later) (reverse past ++ others)

pub extends : OneOutcome → (a w : World) (events later : List Event) (sent : List Sent) (now : List OpenFlow)
    (past others : List (List OpenFlow)) → Run a events sent w → AreMoments a events (reverse (now ∷ past)) →
    AreMoments w later others → Extends a w events later now past others
extends one a w events later sent now past others run are more =
    let c = continues one a w events later sent (reverse (now ∷ past)) others run are more in
    let back : now ∷ past ≡ open_flows w.gateway ∷ reverse c.before = sym (reverse-reverse (now ∷ past))
    ∙ ap reverse c.is ∙ reverse-append c.before (open_flows w.gateway ∷ []) in
    let front : past ≡ reverse c.before = cc back in
    record {
      is = cc back;
      are = subst (λ (l : List (List OpenFlow)). AreMoments a (events ++ later) (l ++ others))
          (sym (ap reverse front ∙ reverse-reverse c.before)) c.are;
    }

-- ## The events of notes

pub events_in_both : (a b : List Note) → events_in (a ++ b) ≡ events_in a ++ events_in b
events_in_both [] b = refl
events_in_both (Comment line ∷ a) b = events_in_both a b
events_in_both (Happened event ∷ a) b = ap (λ (l : List Event). event ∷ l) (events_in_both a b)

events_in_ticks : (n : ℕ) → events_in (ticks_of n) ≡ replicate n Tick
events_in_ticks zero = refl
events_in_ticks (suc n) = ap (λ (l : List Event). Tick ∷ l) (events_in_ticks n)

pub events_with_ticks : (notes : List Note) (n : ℕ) → events_in (notes ++ ticks_of n) ≡ events_in notes ++ replicate n Tick
events_with_ticks notes n = events_in_both notes (ticks_of n) ∙ ap (λ (l : List Event). events_in notes ++ l) (events_in_ticks n)

-- ## The intervals among entries

pub intervals_in_both : (a b : List Entry) → intervals_in (a ++ b) ≡ intervals_in a ++ intervals_in b
intervals_in_both [] b = refl
intervals_in_both (entries.Interval x ∷ a) b = λ i. record {
  flow = x.flow;
  first = x.first.tick;
  end = Rattle.std.specs.Option.option_map (λ (m : Moment). m.tick) x.end;
} ∷ intervals_in_both a b i
intervals_in_both (entries.Gap gap ∷ a) b = intervals_in_both a b
intervals_in_both (entries.Audible x ∷ a) b = intervals_in_both a b

pub audible_in_both : (a b : List Entry) → audible_in (a ++ b) ≡ audible_in a ++ audible_in b
audible_in_both [] b = refl
audible_in_both (entries.Interval x ∷ a) b = audible_in_both a b
audible_in_both (entries.Gap gap ∷ a) b = audible_in_both a b
audible_in_both (entries.Audible x ∷ a) b = ap (λ (l : List Interval). without_dates x ∷ l) (audible_in_both a b)

pub none_audible : (end : Option Moment) (xs : List OpenInterval) → audible_in (map (entry_until end) xs) ≡ []
none_audible end [] = refl
none_audible end (x ∷ xs) = none_audible end xs

pub still_none : (before more : List Entry) → audible_in before ≡ [] → audible_in more ≡ [] → audible_in (before ++ more) ≡ []
still_none before more h k = audible_in_both before more ∙ ap (λ (l : List Interval). l ++ audible_in more) h ∙ k

told_until : (end : Moment) (xs : List OpenInterval) →
    intervals_in (map (entry_until (Some end)) xs) ≡ map (ended_at end.tick) xs
told_until end [] = refl
told_until end (x ∷ xs) = ap (λ (l : List Interval). ended_at end.tick x ∷ l) (told_until end xs)

pub told_open : (xs : List OpenInterval) → intervals_in (map (entry_until None) xs) ≡ map still_open xs
told_open [] = refl
told_open (x ∷ xs) = ap (λ (l : List Interval). still_open x ∷ l) (told_open xs)

-- ## One more moment

still_same : EqualMomentsTellNothing → (past : List (List OpenFlow)) (flows : List OpenFlow) → flows ≡ newest past →
    (ended (flows ∷ past) ≡ ended past) × (lasting (flows ∷ past) ≡ lasting past)
unfolding ended
still_same equal [] flows e = subst (λ (l : List OpenFlow). (ended (l ∷ []) ≡ ended []) × (lasting (l ∷ []) ≡ lasting []))
    (sym e) (refl, refl)
still_same equal (last ∷ older) flows e = subst
    (λ (l : List OpenFlow). (ended (l ∷ last ∷ older) ≡ ended (last ∷ older)) × (lasting (l ∷ last ∷ older) ≡ lasting (last ∷ older)))
    (sym e) (equal last older 1)

-- If the open flows are those of the newest moment, `TellsPast` still holds after one more moment.
pub tells_same : EqualMomentsTellNothing → (past : List (List OpenFlow)) (flows : List OpenFlow)
    (stored : List OpenInterval) (Told : List Entry → Type 0) → flows ≡ newest past → TellsPast past stored Told →
    TellsPast (flows ∷ past) stored Told
tells_same equal past flows stored Told e h =
    let same = still_same equal past flows e in
    record {
      lasts = (h.lasts.0, h.lasts.1 ∙ sym same.1);
      xs = h.xs;
      no_others = h.no_others;
      ended_are = h.ended_are ∙ sym same.0;
      told = h.told;
    }

-- After one more moment, `TellsPast` still holds if the intervals that ended are reported.
pub tells_ended : (past : List (List OpenFlow)) (flows : List OpenFlow) (now : Moment)
    (stored new over : List OpenInterval) (Told ToldNext : List Entry → Type 0) →
    AreLasting (flows ∷ past) new → map (ended_at now.tick) over ≡ ending past flows →
    ((before : List Entry) → Told before → ToldNext (before ++ map (entry_until (Some now)) over)) →
    TellsPast past stored Told → TellsPast (flows ∷ past) new ToldNext
unfolding ended
tells_ended past flows now stored new over Told ToldNext lasts ends tells h = record {
  lasts = lasts;
  xs = h.xs ++ map (entry_until (Some now)) over;
  no_others = still_none h.xs (map (entry_until (Some now)) over) h.no_others (none_audible (Some now) over);
  ended_are = intervals_in_both h.xs (map (entry_until (Some now)) over)
      ∙ ap (λ (l : List Interval). l ++ intervals_in (map (entry_until (Some now)) over)) h.ended_are
      ∙ ap (λ (l : List Interval). ended past ++ l) (told_until now over ∙ ends);
  told = tells h.xs h.told;
}

-- After one more moment, `TellsPast` still holds unless the sink refuses an interval.
pub tells_ended_on : {E : Type 0} (past : List (List OpenFlow)) (flows : List OpenFlow) (now : Moment)
    (stored new over : List OpenInterval) (Told ToldNext : List Entry → Type 0) (result : Result (Unit {0}) E) →
    AreLasting (flows ∷ past) new → map (ended_at now.tick) over ≡ ending past flows →
    ((before : List Entry) → Told before → OnOk result (ToldNext (before ++ map (entry_until (Some now)) over))) →
    TellsPast past stored Told → OnOk result (TellsPast (flows ∷ past) new ToldNext)
tells_ended_on past flows now stored new over Told ToldNext (Ok done) lasts ends tells h =
    tells_ended past flows now stored new over Told ToldNext lasts ends tells h
tells_ended_on past flows now stored new over Told ToldNext (Err error) lasts ends tells h = tt

-- Reporting the interval at index `i` extends the reported entries by that interval.
pub told_more : (end : Option Moment) (before : List Entry) (xs : List OpenInterval) (i : ℕ) (x : OpenInterval) →
    i < length xs → get_or xs i x ≡ x →
    (before ++ map (entry_until end) (take i xs)) ++ entry_until end x ∷ [] ≡
    before ++ map (entry_until end) (take (i + 1) xs)
told_more end before xs i x within is =
    append_assoc before (map (entry_until end) (take i xs)) (entry_until end x ∷ [])
    ∙ ap (λ (l : List Entry). before ++ l) (sym (map-append (entry_until end) (take i xs) (x ∷ []))
    ∙ ap (λ (l : List OpenInterval). map (entry_until end) l) (ap (λ (y : OpenInterval). take i xs ++ y ∷ []) (sym is)
    ∙ sym (take_more xs i x within)))

pub told_whole : (end : Option Moment) (before : List Entry) (xs : List OpenInterval) (i : ℕ) → length xs ≤ i →
    before ++ map (entry_until end) (take i xs) ≡ before ++ map (entry_until end) xs
told_whole end before xs i all = ap (λ (l : List OpenInterval). before ++ map (entry_until end) l) (take_all i xs all)

-- ## One more note

pub keeps_start : (base : World) (tick : ℕ) (is_changed : Bool) (stored : List OpenInterval)
    (Told : List Entry → Type 0) → tick ≡ 0 → is_changed ≡ true → stored ≡ [] → Told [] →
    KeepsOpen base [] tick is_changed stored Told
unfolding ended
keeps_start base tick is_changed stored Told none changed empty told = record {
  past = [];
  now = open_flows base.gateway;
  are = refl;
  count = none;
  same = λ e. absurd (true≢false (sym changed ∙ e));
  tells = record {
    lasts = subst (λ (l : List OpenInterval). AreLasting [] l) (sym empty)
        (λ i j d less below. absurd (omega arith), refl);
    xs = [];
    no_others = refl;
    ended_are = refl;
    told = told;
  };
}

pub keeps_comment : (base : World) (notes : List Note) (line : List ℕ) (tick next : ℕ) (is_changed : Bool)
    (stored : List OpenInterval) (Told : List Entry → Type 0) → next ≡ tick →
    KeepsOpen base notes tick is_changed stored Told →
    KeepsOpen base (notes ++ Comment line ∷ []) next is_changed stored Told
keeps_comment base notes line tick next is_changed stored Told e h = record {
  past = h.past;
  now = h.now;
  are = subst (λ (l : List Event). AreMoments base l (reverse (h.now ∷ h.past)))
      (sym (events_in_both notes (Comment line ∷ []) ∙ append-nil (events_in notes))) h.are;
  count = e ∙ h.count;
  same = h.same;
  tells = h.tells;
}

pub keeps_gap : (base : World) (notes : List Note) (gap : Gap) (tick : ℕ) (is_changed : Bool)
    (stored : List OpenInterval) (Told ToldNext : List Entry → Type 0) →
    ((before : List Entry) → Told before → ToldNext (before ++ entries.Gap gap ∷ [])) →
    KeepsOpen base notes tick is_changed stored Told → KeepsOpen base notes tick is_changed stored ToldNext
keeps_gap base notes gap tick is_changed stored Told ToldNext tells h = record {
  past = h.past;
  now = h.now;
  are = h.are;
  count = h.count;
  same = h.same;
  tells = record {
    lasts = h.tells.lasts;
    xs = h.tells.xs ++ entries.Gap gap ∷ [];
    no_others = still_none h.tells.xs (entries.Gap gap ∷ []) h.tells.no_others refl;
    ended_are = intervals_in_both h.tells.xs (entries.Gap gap ∷ []) ∙ append-nil (intervals_in h.tells.xs)
        ∙ h.tells.ended_are;
    told = tells h.tells.xs h.tells.told;
  };
}

-- After a gap is reported, `KeepsOpen` still holds, unless the sink refuses the gap.
pub keeps_gap_on : {E : Type 0} (base : World) (notes : List Note) (gap : Gap) (tick : ℕ) (is_changed : Bool)
    (stored : List OpenInterval) (Told ToldNext : List Entry → Type 0) (result : Result (Unit {0}) E) →
    ((before : List Entry) → Told before → OnOk result (ToldNext (before ++ entries.Gap gap ∷ []))) →
    KeepsOpen base notes tick is_changed stored Told →
    OnOk result (KeepsOpen base notes tick is_changed stored ToldNext)
keeps_gap_on base notes gap tick is_changed stored Told ToldNext (Ok done) tells h =
    keeps_gap base notes gap tick is_changed stored Told ToldNext tells h
keeps_gap_on base notes gap tick is_changed stored Told ToldNext (Err error) tells h = tt

-- The open flows in `KeepsOpen` are those of the world after the notes.
pub now_is : OneOutcome → (base : World) (notes : List Note) (tick : ℕ) (is_changed : Bool)
    (stored : List OpenInterval) (Told : List Entry → Type 0) (sent : List Sent) (w : World) →
    Run base (events_in notes) sent w → (h : KeepsOpen base notes tick is_changed stored Told) →
    h.now ≡ open_flows w.gateway
now_is one base notes tick is_changed stored Told sent w run h =
    (extends one base w (events_in notes) [] sent h.now h.past (open_flows w.gateway ∷ []) run h.are refl).is

-- A run that ends with this event, split into the run before the event and the event's step.
pub record Split (a w : World) (events : List Event) (event : Event) : Type 0 where
  pub before : List Sent
  pub mid : World
  pub run : Run a events before mid
  pub sent : List Sent
  pub step : Step mid event sent w

pub split : (a w : World) (events : List Event) (event : Event) (sent : List Sent) → Run a (events ++ event ∷ []) sent w →
    Split a w events event
split a w [] event sent (first, rest, next, step, run, is) = record {
  before = [];
  mid = a;
  run = (refl, refl);
  sent = first;
  step = subst (λ (v : World). Step a event first v) (sym run.1) step;
}
split a w (e ∷ es) event sent (first, rest, next, step, run, is) =
    let s = split next w es event rest run in
    record {
      before = first ++ s.before;
      mid = s.mid;
      run = (first, s.before, next, step, s.run, refl);
      sent = s.sent;
      step = s.step;
    }

pub not_control : (event : Event) → ((source : Peer) (bytes : List ℕ) → ¬ event ≡ Control source bytes) →
    is_control event ≡ false
not_control (Control source bytes) h = absurd (h source bytes refl)
not_control (Media port source bytes) h = refl
not_control Tick h = refl

no_tick : (event : Event) → event ≢ Tick → is_tick event ≡ false
no_tick (Control source bytes) h = refl
no_tick (Media port source bytes) h = refl
no_tick Tick h = absurd (h refl)

pub one_moment : (w next : World) (event : Event) (sent : List Sent) → event ≢ Tick → Step w event sent next →
    AreMoments w (event ∷ []) (open_flows next.gateway ∷ [])
one_moment w next event sent h step = (
  sent,
  next,
  open_flows next.gateway ∷ [],
  step,
  refl,
  sym (ap (λ (b : Bool). if_tick b w (open_flows next.gateway ∷ [])) (no_tick event h)),
)

pub keeps_datagram : OneOutcome → OnlyControlChangesFlows → (base : World) (notes : List Note) (event : Event)
    (tick next : ℕ) (is_changed will_change : Bool) (stored : List OpenInterval) (Told : List Entry → Type 0)
    (state : CoreState) → next ≡ tick → event ≢ Tick →
    (will_change ≡ false → (is_control event ≡ false) × (is_changed ≡ false)) →
    HasRun base (notes ++ Happened event ∷ []) state → KeepsOpen base notes tick is_changed stored Told →
    KeepsOpen base (notes ++ Happened event ∷ []) next will_change stored Told
keeps_datagram one only base notes event tick next is_changed will_change stored Told state same not changes (sent, w, (run, stands)) h =
    let all = events_in_both notes (Happened event ∷ []) in
    let s = split base w (events_in notes) event sent
    (subst (λ (l : List Event). Run base l sent w) all run) in
    let e = extends one base s.mid (events_in notes) (event ∷ []) s.before h.now h.past
    (open_flows w.gateway ∷ []) s.run h.are (one_moment s.mid w event s.sent not s.step) in
    record {
      past = h.past;
      now = open_flows w.gateway;
      are = subst (λ (l : List Event). AreMoments base l (reverse (open_flows w.gateway ∷ h.past))) (sym all)
          (subst (λ (l : List (List OpenFlow)). AreMoments base (events_in notes ++ event ∷ []) l)
          (sym (reverse-append (open_flows w.gateway ∷ []) h.past)) e.are);
      count = same ∙ h.count;
      same = λ k. let (speech, before) = changes k in
          only s.mid w event s.sent speech s.step ∙ sym e.is ∙ h.same before;
      tells = h.tells;
    }
