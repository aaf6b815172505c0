-- The appends of a session to its journal: ticks, and then a message.
use Rattle.std.proofs.Common.{◌≡◌, ℕ, true, false, is_some, ◌+◌, ◌^◌, ◌<◌, inl, inr, List, [], ◌∷◌, ◌++◌, IsSome, decimal, Option, Some, None, Result, Ok, Err, refl, sym, ap, subst, ◌∙◌, append_assoc, codes}
use Rattle.std.proofs.lemmas.List.{append-nil}
use Rattle.std.proofs.lemmas.List.Elements.{All-nil, All-cons, All-append}
use Rattle.mg_serve.specs.declared.fencing.Fencing.{Fencing}
use Rattle.mg_journal.specs.declared.append_fault.AppendFault.{AppendFault}
use Rattle.mg_journal.specs.declared.durability.Durability.{Durability}
use Rattle.mg_journal.specs.declared.durability.Durability.TheVariants.{Written}
use Rattle.mg_journal.specs.Text.{EndsInLineFeed}
use Rattle.mg_journal.proofs.TextLemmas.{ends_line}
use Rattle.mg_ports.specs.declared.call.Call.{Call}
use Rattle.mg_ports.specs.declared.call.Call.TheVariants.{Append}
use Rattle.mg_ports.specs.Calls.{Grows}
use Rattle.mg_ports.specs.Journaled.{PortsSeen, AppendsDated, JournalAfter}
use Rattle.mg_words.specs.declared.peer.Peer.{Peer}
use Rattle.mg_core.specs.declared.event.Event.TheVariants as events
use Rattle.mg_core.specs.Counted.{ticks_line}
use Rattle.mg_core.specs.Peer.{peer_text}
use Rattle.mg_core.specs.Recording.{IsDatagram, event_line}
use Rattle.mg_serve.specs.Journaled.{Lacks, Announces, IsJournaled}
use Rattle.mg_serve.specs.aids.Tried.{IsTried}
use Rattle.mg_core.specs.ExceptReceived.{is_oversized}
use Rattle.mg_serve.proofs.AppendLemmas.{one_as}
use Rattle.mg_serve.specs.Trace.{TraceEntry, Called, Happened, calls_of}
use Rattle.mg_serve.specs.aids.Journaling.{AreAppends, AppendsTicks, AppendsBefore, EndsTick, IsAppended, LogsCalls, after_one_tick, with_tick}
use Rattle.mg_serve.specs.aids.Outside.{JournalView}
use Rattle.mg_serve.proofs.JournalLemmas.{after_both, append_tried, journaled_both, message_tried, nothing_journaled, nothing_tried, tried_both}
use Rattle.mg_serve.proofs.Printing.{calls_both}
use Rattle.mg_serve.proofs.Taking.{told_both, told_none}

-- ## Text that ends in a line feed

feed_after : (text front : List ℕ) → text ≡ front ++ 10 ∷ [] → EndsInLineFeed text
feed_after text front is = subst EndsInLineFeed (sym is) (ends_line front)

pub ticks_feed : (n : ℕ) → EndsInLineFeed (ticks_line n)
ticks_feed n =
    feed_after (ticks_line n) (codes "ticks " ++ decimal n) (sym (append_assoc (codes "ticks ") (decimal n) (10 ∷ [])))

last_feed : (a b c d : List ℕ) → EndsInLineFeed (a ++ (b ++ (c ++ (d ++ codes "\n"))))
last_feed a b c d =
    feed_after (a ++ (b ++ (c ++ (d ++ codes "\n")))) (a ++ (b ++ (c ++ d))) (simp append_assoc)

pub message_feed : (source : Peer) (bytes : List ℕ) → EndsInLineFeed (event_line (events.Control source bytes))
message_feed source bytes = last_feed (codes "control ") (peer_text source) (codes " ") _

-- ## One append

appends_one : (before after : PortsSeen) (call : Call) → Grows before.calls after.calls (call ∷ []) →
    JournalAfter (call ∷ []) before.journal after.journal → LogsCalls before after (call ∷ [])
appends_one before after call logged journaled = record { logged = logged; journaled = journaled }

ticks_refused : (fault : AppendFault) (d : Option Durability) (lacking : ℕ) → IsSome d → 0 < lacking → lacking < 2 ^ 64 →
    IsJournaled d lacking (Called (Append (ticks_line lacking) Written (Err fault)) ∷ []) lacking
ticks_refused fault None lacking has some small = absurd cc
ticks_refused fault (Some durable) lacking has some small = (Lacks lacking, inl (some, small, refl, refl, refl), refl)

ticks_done : (d : Option Durability) (lacking : ℕ) → IsSome d → 0 < lacking → lacking < 2 ^ 64 →
    IsJournaled d lacking (Called (Append (ticks_line lacking) Written (Ok tt)) ∷ []) 0
ticks_done None lacking has some small = absurd cc
ticks_done (Some durable) lacking has some small = (Lacks 0, inl (some, small, refl, refl, refl), refl)

pub ticks_fail : (fault : AppendFault) (before after : PortsSeen) (j k : JournalView) →
    IsSome j.durability → 0 < j.lacking → j.lacking < 2 ^ 64 → k ≡ record j { untried = 0 } →
    Grows before.calls after.calls (Append (ticks_line j.lacking) Written (Err fault) ∷ []) →
    AppendsDated (ticks_line j.lacking) Written before.journal after.journal (Err fault) →
    AppendsTicks (Err fault) before after j k
ticks_fail fault before after j k has some small is logged dated =
    subst (λ (v : JournalView). AppendsTicks (Err fault) before after j v) (sym is) (record {
      logs = record { logged = logged; journaled = (after.journal, dated, refl) };
      durability = refl;
      fencing = refl;
      lacks = ticks_refused fault j.durability j.lacking has some small;
      tries = append_tried j.durability j.untried 0 (ticks_line j.lacking) Written (Err fault) has refl;
    })

pub ticks_work : (before after : PortsSeen) (j k : JournalView) → IsSome j.durability → 0 < j.lacking →
    j.lacking < 2 ^ 64 → k ≡ record j { lacking = 0; untried = 0 } →
    Grows before.calls after.calls (Append (ticks_line j.lacking) Written (Ok tt) ∷ []) →
    AppendsDated (ticks_line j.lacking) Written before.journal after.journal (Ok tt) →
    AppendsTicks (Ok tt) before after j k
ticks_work before after j k has some small is logged dated =
    subst (λ (v : JournalView). AppendsTicks (Ok tt) before after j v) (sym is)
    (record {
      logs = record { logged = logged; journaled = (after.journal, dated, refl) };
      durability = refl;
      fencing = refl;
      lacks = ticks_done j.durability j.lacking has some small;
      tries = append_tried j.durability j.untried 0 (ticks_line j.lacking) Written (Ok tt) has refl;
    })

-- ## Appending ticks

pub nothing_appended : (seen : PortsSeen) (j : JournalView) → AppendsBefore [] (Ok tt) seen seen j j
nothing_appended seen j = record {
  trace = [];
  are = All-nil IsAppended;
  logs = record { logged = told_none seen.calls; journaled = refl };
  durability = refl;
  fencing = refl;
  lacks = nothing_journaled j.durability j.lacking;
  tries = nothing_tried j.durability j.untried;
}

pub logs_both : (a b c : PortsSeen) (p q : List TraceEntry) → LogsCalls a b (calls_of p) → LogsCalls b c (calls_of q) →
    LogsCalls a c (calls_of (p ++ q))
logs_both a b c p q h k = subst (λ (l : List Call). LogsCalls a c l) (sym (calls_both p q)) (record {
  logged = told_both a.calls b.calls c.calls (calls_of p) (calls_of q) h.logged k.logged;
  journaled = after_both (calls_of p) (calls_of q) a.journal b.journal c.journal h.journaled k.journaled;
})

-- In a record `AppendsBefore` of appends that succeeded, the trace fits the numbers of ticks that the journal lacks
-- before and after the appends.
lacked : (a b : PortsSeen) (j k : JournalView) → (h : AppendsBefore [] (Ok tt) a b j k) →
    IsJournaled j.durability j.lacking h.trace k.lacking
lacked a b j k h =
    subst (λ (l : List TraceEntry). IsJournaled j.durability j.lacking l k.lacking) (append-nil h.trace) h.lacks

then_journaled : (a b : PortsSeen) (j k : JournalView) (n : ℕ) (q : List TraceEntry) →
    (h : AppendsBefore [] (Ok tt) a b j k) → IsJournaled k.durability k.lacking q n →
    IsJournaled j.durability j.lacking (h.trace ++ q) n
then_journaled a b j k n q h more =
    journaled_both j.durability j.lacking k.lacking n h.trace q (lacked a b j k h)
    (subst (λ (d : Option Durability). IsJournaled d k.lacking q n) h.durability more)

then_tried : (a b : PortsSeen) (j k : JournalView) (n : ℕ) (q : List TraceEntry) →
    (h : AppendsBefore [] (Ok tt) a b j k) → IsTried k.durability k.untried q n →
    IsTried j.durability j.untried (h.trace ++ q) n
then_tried a b j k n q h more =
    tried_both j.durability j.untried k.untried n h.trace q
    (subst (λ (l : List TraceEntry). IsTried j.durability j.untried l k.untried) (append-nil h.trace) h.tries)
    (subst (λ (d : Option Durability). IsTried d k.untried q n) h.durability more)

pub ticks_then : (result : Result (Unit {0}) AppendFault) (a b c : PortsSeen) (j k m : JournalView) →
    AppendsBefore [] (Ok tt) a b j k → AppendsTicks result b c k m → AppendsBefore [] result a c j m
ticks_then (Ok done) a b c j k m h more =
    let last = Called (Append (ticks_line k.lacking) Written (Ok tt)) ∷ [] in
    record {
      trace = h.trace ++ last;
      are = All-append IsAppended h.trace last h.are
          (All-cons IsAppended (Called (Append (ticks_line k.lacking) Written (Ok tt))) [] tt (All-nil IsAppended));
      logs = logs_both a b c h.trace last h.logs more.logs;
      durability = more.durability ∙ h.durability;
      fencing = more.fencing ∙ h.fencing;
      lacks = subst (λ (l : List TraceEntry). IsJournaled j.durability j.lacking l m.lacking)
          (sym (append-nil (h.trace ++ last))) (then_journaled a b j k m.lacking last h more.lacks);
      tries = subst (λ (l : List TraceEntry). IsTried j.durability j.untried l m.untried)
          (sym (append-nil (h.trace ++ last))) (then_tried a b j k m.untried last h more.tries);
    }
ticks_then (Err fault) a b c j k m h more =
    let last = Called (Append (ticks_line k.lacking) Written (Err fault)) ∷ [] in
    record {
      trace = h.trace ++ last;
      are = (h.trace, ticks_line k.lacking, Written, refl, h.are, inl (k.lacking, refl));
      logs = logs_both a b c h.trace last h.logs more.logs;
      durability = more.durability ∙ h.durability;
      fencing = more.fencing ∙ h.fencing;
      lacks = subst (λ (l : List TraceEntry). IsJournaled j.durability j.lacking l m.lacking)
          (sym (append-nil (h.trace ++ last))) (then_journaled a b j k m.lacking last h more.lacks);
      tries = subst (λ (l : List TraceEntry). IsTried j.durability j.untried l m.untried)
          (sym (append-nil (h.trace ++ last))) (then_tried a b j k m.untried last h more.tries);
    }

-- ## Appending a message

message_done : (d : Option Durability) (durable : Durability) (n : ℕ) (source : Peer) (bytes : List ℕ) →
    d ≡ Some durable → n ≡ 0 → IsDatagram source bytes → is_oversized (events.Control source bytes) ≡ false →
    IsJournaled d n
    (Called (Append (event_line (events.Control source bytes)) durable (Ok tt))
    ∷ Happened (events.Control source bytes) ∷ []) n
message_done None durable n source bytes is none fits short = absurd cc
message_done (Some wanted) durable n source bytes is none fits short = (
  Announces source bytes,
  inr (source, bytes, none, refl, cc, refl, fits, short),
  (Lacks 0, (refl, refl), ap Lacks none),
)

message_refused : (fault : AppendFault) (d : Option Durability) (durable : Durability) (n : ℕ) (source : Peer)
    (bytes : List ℕ) → d ≡ Some durable → n ≡ 0 → IsDatagram source bytes →
    is_oversized (events.Control source bytes) ≡ false →
    IsJournaled d n (Called (Append (event_line (events.Control source bytes)) durable (Err fault)) ∷ []) n
message_refused fault None durable n source bytes is none fits short = absurd cc
message_refused fault (Some wanted) durable n source bytes is none fits short =
    (Lacks 0, inr (source, bytes, none, refl, cc, refl, fits, short), ap Lacks none)

some_is : (d : Option Durability) (durable : Durability) → d ≡ Some durable → IsSome d
some_is None durable is = absurd cc
some_is (Some wanted) durable is = refl

pub announces : (result : Result (Unit {0}) AppendFault) (durable : Durability) (source : Peer) (bytes : List ℕ)
    (a b c : PortsSeen) (j k m : JournalView) → AppendsBefore [] (Ok tt) a b j k → j.durability ≡ Some durable →
    k.lacking ≡ 0 → m ≡ record k { untried = 0 } → IsDatagram source bytes →
    is_oversized (events.Control source bytes) ≡ false →
    Grows b.calls c.calls (Append (event_line (events.Control source bytes)) durable result ∷ []) →
    AppendsDated (event_line (events.Control source bytes)) durable b.journal c.journal result →
    AppendsBefore (Happened (events.Control source bytes) ∷ []) result a c j m
announces (Ok done) durable source bytes a b c j k m h is none at fits short logged dated =
    let append = Append (event_line (events.Control source bytes)) durable (Ok tt) in
    let happened = Happened (events.Control source bytes) ∷ [] in
    subst (λ (v : JournalView). AppendsBefore happened (Ok tt) a c j v) (sym at) (record {
      trace = h.trace ++ Called append ∷ [];
      are = All-append IsAppended h.trace (Called append ∷ []) h.are
          (All-cons IsAppended (Called append) [] tt (All-nil IsAppended));
      logs = logs_both a b c h.trace (Called append ∷ []) h.logs
          (record { logged = logged; journaled = (c.journal, dated, refl) });
      durability = h.durability;
      fencing = h.fencing;
      lacks = subst (λ (l : List TraceEntry). IsJournaled j.durability j.lacking l k.lacking)
          (sym (append_assoc h.trace (Called append ∷ []) happened))
          (then_journaled a b j k k.lacking (Called append ∷ happened) h
          (message_done k.durability durable k.lacking source bytes (h.durability ∙ is) none fits short));
      tries = subst (λ (l : List TraceEntry). IsTried j.durability j.untried l 0)
          (sym (append_assoc h.trace (Called append ∷ []) happened))
          (then_tried a b j k 0 (Called append ∷ happened) h
          (message_tried k.durability durable k.untried 0 (event_line (events.Control source bytes)) durable (Ok tt) source bytes
          (h.durability ∙ is) refl));
    })
announces (Err fault) durable source bytes a b c j k m h is none at fits short logged dated =
    let append = Append (event_line (events.Control source bytes)) durable (Err fault) in
    let happened = Happened (events.Control source bytes) ∷ [] in
    subst (λ (v : JournalView). AppendsBefore happened (Err fault) a c j v) (sym at) (record {
      trace = h.trace ++ Called append ∷ [];
      are = (h.trace, event_line (events.Control source bytes), durable, refl, h.are, inr refl);
      logs = logs_both a b c h.trace (Called append ∷ []) h.logs
          (record { logged = logged; journaled = (c.journal, dated, refl) });
      durability = h.durability;
      fencing = h.fencing;
      lacks = subst (λ (l : List TraceEntry). IsJournaled j.durability j.lacking l k.lacking)
          (sym (append-nil (h.trace ++ Called append ∷ [])))
          (then_journaled a b j k k.lacking (Called append ∷ []) h
          (message_refused fault k.durability durable k.lacking source bytes (h.durability ∙ is) none fits short));
      tries = subst (λ (l : List TraceEntry). IsTried j.durability j.untried l 0)
          (sym (append-nil (h.trace ++ Called append ∷ [])))
          (then_tried a b j k 0 (Called append ∷ []) h
          (append_tried k.durability k.untried 0 (event_line (events.Control source bytes)) durable (Err fault)
          (some_is k.durability durable (h.durability ∙ is)) refl));
    })

refused_before : (followed : List TraceEntry) (fault : AppendFault) (p : List TraceEntry) → AreAppends [] (Err fault) p →
    AreAppends followed (Err fault) p
refused_before followed fault p (appended, lines, durability, is, all, inl ticks) =
    (appended, lines, durability, is, all, inl ticks)
refused_before followed fault p (appended, lines, durability, is, all, inr none) = absurd none

-- If an append of ticks failed, `AppendsBefore` holds for any entries that would have followed.
pub not_announced : (followed : List TraceEntry) (fault : AppendFault) (a b : PortsSeen) (j k : JournalView) →
    AppendsBefore [] (Err fault) a b j k → AppendsBefore followed (Err fault) a b j k
not_announced followed fault a b j k h = record {
  trace = h.trace;
  are = refused_before followed fault h.trace h.are;
  logs = h.logs;
  durability = h.durability;
  fencing = h.fencing;
  lacks = h.lacks;
  tries = h.tries;
}

-- Without a journal, nothing is appended before an event.
pub nothing_announced : (source : Peer) (bytes : List ℕ) (seen : PortsSeen) (j : JournalView) → j.durability ≡ None →
    AppendsBefore (Happened (events.Control source bytes) ∷ []) (Ok tt) seen seen j j
nothing_announced source bytes seen j none = record {
  trace = [];
  are = All-nil IsAppended;
  logs = record { logged = told_none seen.calls; journaled = refl };
  durability = refl;
  fencing = refl;
  lacks = subst (λ (d : Option Durability).
      IsJournaled d j.lacking (Happened (events.Control source bytes) ∷ []) j.lacking) (sym none) (refl, refl);
  tries = subst (λ (d : Option Durability).
      IsTried d j.untried (Happened (events.Control source bytes) ∷ []) j.untried) (sym none) refl;
}

-- An oversized message is handled without an append.
pub oversized_unannounced : (source : Peer) (bytes : List ℕ) (seen : PortsSeen) (j : JournalView) →
    is_oversized (events.Control source bytes) ≡ true →
    AppendsBefore (Happened (events.Control source bytes) ∷ []) (Ok tt) seen seen j j
oversized_unannounced source bytes seen j large = record {
  trace = [];
  are = All-nil IsAppended;
  logs = record { logged = told_none seen.calls; journaled = refl };
  durability = refl;
  fencing = refl;
  lacks = lacks j.durability;
  tries = tries j.durability;
}
  where
    lacks : (d : Option Durability) → IsJournaled d j.lacking (Happened (events.Control source bytes) ∷ []) j.lacking
    lacks None = (refl, refl)
    lacks (Some durable) = (Lacks j.lacking, (large, refl), refl)

    tries : (d : Option Durability) → IsTried d j.untried (Happened (events.Control source bytes) ∷ []) j.untried
    tries None = refl
    tries (Some durable) = refl

-- ## The end of a tick

-- Trying an append has the same effect after one more tick.
tried_again : (d : Option Durability) (n left : ℕ) (lines : List ℕ) (result : Result (Unit {0}) AppendFault) →
    IsTried d n (Called (Append lines Written result) ∷ []) left →
    IsTried d (after_one_tick d n) (Called (Append lines Written result) ∷ []) left
tried_again None n left lines result h = h
tried_again (Some durable) n left lines result h = h

pub tick_then_append : (result : Result (Unit {0}) AppendFault) (before after : PortsSeen) (j i k : JournalView) →
    j.untried < 10 → i ≡ record j { lacking = after_one_tick j.durability j.lacking } → AppendsTicks result before after i k →
    EndsTick before after j k
tick_then_append result before after j i k few is h =
    let view : i.durability ≡ j.durability = ap (λ (v : JournalView). v.durability) is in
    record {
      appends = Called (Append (ticks_line i.lacking) Written result) ∷ [];
      failed = (one_as events.Tick result i.lacking).0;
      may = (one_as events.Tick result i.lacking).1;
      logs = h.logs;
      durability = h.durability ∙ view;
      fencing = h.fencing ∙ ap (λ (v : JournalView). v.fencing) is;
      lacks = subst (λ (v : JournalView).
          IsJournaled v.durability v.lacking (Called (Append (ticks_line i.lacking) Written result) ∷ []) k.lacking) is h.lacks;
      in_time = few;
      tries = tried_again j.durability j.untried k.untried (ticks_line i.lacking) result
          (subst (λ (v : JournalView).
          IsTried v.durability v.untried (Called (Append (ticks_line i.lacking) Written result) ∷ []) k.untried) is h.tries);
    }

pub counted : (d : Option Durability) (lacking : ℕ) → IsSome d → after_one_tick d lacking ≡ lacking + 1
counted None lacking some = absurd cc
counted (Some durable) lacking some = refl

-- If no append is due after a tick, the tick is only counted.
pub tick_alone : (seen : PortsSeen) (j k : JournalView) → j.untried < 10 → k ≡ with_tick j → EndsTick seen seen j k
tick_alone seen j k few is = subst (λ (v : JournalView). EndsTick seen seen j v) (sym is) (record {
  appends = [];
  failed = false;
  may = refl;
  logs = record { logged = told_none seen.calls; journaled = refl };
  durability = refl;
  fencing = refl;
  lacks = nothing_journaled j.durability (after_one_tick j.durability j.lacking);
  in_time = few;
  tries = nothing_tried j.durability (after_one_tick j.durability j.untried);
})

without : (d : Option Durability) (lacking untried : ℕ) (fencing : Fencing) → is_some d ≡ false →
    record { durability = d; lacking = lacking; untried = untried; fencing = fencing }
    ≡ with_tick (record { durability = d; lacking = lacking; untried = untried; fencing = fencing })
without None lacking untried fencing none = refl
without (Some durable) lacking untried fencing none = absurd cc

-- Without a journal, ticks are not counted.
pub without_journal : (j : JournalView) → is_some j.durability ≡ false → j ≡ with_tick j
without_journal j none = without j.durability j.lacking j.untried j.fencing none

-- With a journal, each tick is counted.
pub tick_counted : (j : JournalView) → IsSome j.durability →
    record j { lacking = j.lacking + 1; untried = j.untried + 1 } ≡ with_tick j
tick_counted j some =
    ap (λ (n : ℕ). record j { lacking = n; untried = j.untried + 1 }) (sym (counted j.durability j.lacking some))
    ∙ ap (λ (n : ℕ). record j { lacking = after_one_tick j.durability j.lacking; untried = n }) (sym (counted j.durability j.untried some))
