-- Steps in sequence: seen from outside, for each element of a list, and from one core state to the next.
use Rattle.std.proofs.Common.{◌≡◌, ℕ, ◌+◌, true, false, List, [], ◌∷◌, ◌++◌, map, Option, Some, None, Ok, Err, refl, sym, ap, subst, ◌∙◌, append_assoc, arith}
use Rattle.std.proofs.lemmas.List.{append-nil, map-id}
use Rattle.std.proofs.lemmas.List.FromFn.{map-range_with_len_more}
use Rattle.std.specs.List.{list_any, range_with_len}
use Rattle.mg_serve.specs.declared.fencing.Fencing.{Fencing}
use Rattle.mg_serve.specs.Setup.{Setup}
use Rattle.mg_core.specs.declared.event.Event.{Event}
use Rattle.mg_core.specs.declared.state.CoreState.{CoreState}
use Rattle.mg_core.specs.World.{World}
use Rattle.mg_ports.specs.declared.call.Call.{Call}
use Rattle.mg_ports.specs.Calls.{Grows}
use Rattle.mg_ports.specs.Journaled.{PortsSeen, JournalAfter}
use Rattle.mg_journal.specs.declared.append_fault.AppendFault.{AppendFault}
use Rattle.mg_journal.specs.declared.durability.Durability.{Durability}
use Rattle.mg_serve.specs.Journaled.{IsJournaled, is_append}
use Rattle.mg_serve.specs.aids.Tried.{IsTried}
use Rattle.mg_serve.specs.declared.form.Form.{Form}
use Rattle.mg_serve.specs.declared.form.Form.TheVariants.{Plain, Recording}
use Rattle.mg_serve.specs.Session.{Each, SocketTurn}
use Rattle.mg_serve.specs.Fenced.{IsFenced}
use Rattle.mg_serve.specs.Trace.{TraceEntry, Called, Happened, Noted, calls_of, output_of}
use Rattle.mg_serve.specs.aids.Printing.{PrinterView, Prints}
use Rattle.mg_serve.specs.aids.Outside.{JournalView, Outside, LeadsByTrace, LogsTrace, outside}
use Rattle.mg_serve.specs.aids.Journaling.{AppendsBefore, LogsCalls}
use Rattle.mg_serve.proofs.FenceLemmas.{calls_fenced, fenced_as, fenced_both, idle_fenced, may_fenced}
use Rattle.mg_serve.proofs.JournalLemmas.{IsIdle, after_both, after_quiet, calls_journaled, calls_tried, idle_journaled, idle_tried, journaled_both, may_print, nothing_journaled, nothing_tried, tried_both}
use Rattle.mg_serve.proofs.AppendLemmas.{appended_as, failed_as}
use Rattle.mg_serve.proofs.Printing.{calls_both, prints_both, prints_nothing}

pub told_both : (a b c : Option (List Call)) (x y : List Call) → Grows a b x → Grows b c y → Grows a c (x ++ y)
told_both a b None x y h k = tt
told_both a None (Some c) x y h k = absurd k
told_both None (Some b) (Some c) x y h k = absurd h
told_both (Some a) (Some b) (Some c) x y h k = k ∙ ap (λ (l : List Call). l ++ y) h ∙ append_assoc a x y

pub told_none : (a : Option (List Call)) → Grows a a []
told_none None = tt
told_none (Some a) = sym (append-nil a)

-- ## Traces as seen from outside

pub tells_both : (a b c : Outside) (p q : List TraceEntry) → LogsTrace a b p → LogsTrace b c q → LogsTrace a c (p ++ q)
tells_both a b c p q h k = record {
  logged = subst (λ (l : List Call). Grows a.ports.calls c.ports.calls l) (sym (calls_both p q))
      (told_both a.ports.calls b.ports.calls c.ports.calls (calls_of p) (calls_of q) h.logged k.logged);
  journaled = subst (λ (l : List Call). JournalAfter l a.ports.journal c.ports.journal) (sym (calls_both p q))
      (after_both (calls_of p) (calls_of q) a.ports.journal b.ports.journal c.ports.journal h.journaled k.journaled);
  prints = prints_both a.printer b.printer c.printer a.written b.written c.written p q h.prints k.prints;
  durability = k.durability ∙ h.durability;
  lacks = journaled_both a.journal.durability a.journal.lacking b.journal.lacking c.journal.lacking p q h.lacks
      (subst (λ (d : Option Durability). IsJournaled d b.journal.lacking q c.journal.lacking) h.durability k.lacks);
  tries = tried_both a.journal.durability a.journal.untried b.journal.untried c.journal.untried p q h.tries
      (subst (λ (d : Option Durability). IsTried d b.journal.untried q c.journal.untried) h.durability k.tries);
  fenced = fenced_both a.journal.fencing b.journal.fencing c.journal.fencing p q h.fenced k.fenced;
}

pub tells_none : (a : Outside) → LogsTrace a a []
tells_none a = record {
  logged = told_none a.ports.calls;
  journaled = refl;
  prints = prints_nothing a.printer a.written [] refl;
  durability = refl;
  lacks = nothing_journaled a.journal.durability a.journal.lacking;
  tries = nothing_tried a.journal.durability a.journal.untried;
  fenced = refl;
}

-- An entry that is printed and changes the journal's state is logged.
pub tells_print_then : (seen : PortsSeen) (x y : Option (List ℕ)) (a b : PrinterView) (j k : JournalView)
    (did : TraceEntry) → calls_of (did ∷ []) ≡ [] → Prints a b x y (did ∷ []) → k.durability ≡ j.durability →
    IsJournaled j.durability j.lacking (did ∷ []) k.lacking → IsTried j.durability j.untried (did ∷ []) k.untried →
    IsFenced j.fencing (did ∷ []) k.fencing → LogsTrace (outside seen x a j) (outside seen y b k) (did ∷ [])
tells_print_then seen x y a b j k did none h same lacks tries fenced = record {
  logged = subst (λ (l : List Call). Grows seen.calls seen.calls l) (sym none) (told_none seen.calls);
  journaled = subst (λ (l : List Call). JournalAfter l seen.journal seen.journal) (sym none) refl;
  prints = h;
  durability = same;
  lacks = lacks;
  tries = tries;
  fenced = fenced;
}

-- An entry that is printed and leaves the journal's state unchanged is logged.
pub tells_print : (seen : PortsSeen) (x y : Option (List ℕ)) (a b : PrinterView) (j : JournalView) (did : TraceEntry) →
    calls_of (did ∷ []) ≡ [] → IsIdle did → Prints a b x y (did ∷ []) →
    LogsTrace (outside seen x a j) (outside seen y b j) (did ∷ [])
tells_print seen x y a b j did none idle h =
    tells_print_then seen x y a b j j did none h refl (idle_journaled j.durability j.lacking did idle)
    (idle_tried j.durability j.untried did idle) (idle_fenced j.fencing did idle)

-- The trace of these calls.
abbrev pub called : List Call → List TraceEntry
called calls = map (λ call. Called call) calls

calls_of-called : (calls : List Call) → calls_of (called calls) ≡ calls
calls_of-called [] = refl
calls_of-called (call ∷ calls) = ap (λ (l : List Call). call ∷ l) (calls_of-called calls)

output_of-called : (form : Form) (calls : List Call) → output_of form (called calls) ≡ []
output_of-called form [] = refl
output_of-called Plain (call ∷ calls) = output_of-called Plain calls
output_of-called Recording (call ∷ calls) = output_of-called Recording calls

pub tells_called : (x : Option (List ℕ)) (a : PrinterView) (j : JournalView) (b c : PortsSeen) (calls : List Call) →
    Grows b.calls c.calls calls → list_any is_append calls ≡ false → c.journal ≡ b.journal →
    LogsTrace (outside b x a j) (outside c x a j) (called calls)
tells_called x a j b c calls logged quiet same = record {
  logged = subst (λ (l : List Call). Grows b.calls c.calls l) (sym (calls_of-called calls)) logged;
  journaled = subst (λ (l : List Call). JournalAfter l b.journal c.journal) (sym (calls_of-called calls))
      (after_quiet calls b.journal c.journal quiet same);
  prints = prints_nothing a x (called calls) (output_of-called a.form calls);
  durability = refl;
  lacks = calls_journaled j.durability j.lacking calls quiet;
  tries = calls_tried j.durability j.untried calls quiet;
  fenced = calls_fenced j.fencing calls quiet;
}

-- Appends are logged, and change the number of ticks that the journal lacks.
pub tells_appends : (x : Option (List ℕ)) (a : PrinterView) (j k : JournalView) (b c : PortsSeen)
    (trace : List TraceEntry) → LogsCalls b c (calls_of trace) → output_of a.form trace ≡ [] →
    k.durability ≡ j.durability → IsJournaled j.durability j.lacking trace k.lacking →
    IsTried j.durability j.untried trace k.untried → IsFenced j.fencing trace k.fencing →
    LogsTrace (outside b x a j) (outside c x a k) trace
tells_appends x a j k b c trace logs none same lacks tries fenced = record {
  logged = logs.logged;
  journaled = logs.journaled;
  prints = prints_nothing a x trace none;
  durability = same;
  lacks = lacks;
  tries = tries;
  fenced = fenced;
}

-- Appends are logged together with the event that they announce. The event may change the fence.
pub tells_announced : (event : Event) (seen later : PortsSeen) (x y : Option (List ℕ)) (a b : PrinterView)
    (j k : JournalView) (fencing : Fencing) → (h : AppendsBefore (Happened event ∷ []) (Ok tt) seen later j k) →
    Prints a b x y (Happened event ∷ []) → IsFenced j.fencing (Happened event ∷ []) fencing →
    LogsTrace (outside seen x a j) (outside later y b (record k { fencing = fencing })) (h.trace ++ Happened event ∷ [])
tells_announced event seen later x y a b j k fencing h printed fenced =
    let calls : calls_of (h.trace ++ Happened event ∷ []) ≡ calls_of h.trace =
    calls_both h.trace (Happened event ∷ []) ∙ append-nil (calls_of h.trace) in
    let appends = appended_as event h.trace h.are in
    record {
      logged = subst (λ (l : List Call). Grows seen.calls later.calls l) (sym calls) h.logs.logged;
      journaled = subst (λ (l : List Call). JournalAfter l seen.journal later.journal) (sym calls) h.logs.journaled;
      prints = prints_both a a b x x y h.trace (Happened event ∷ [])
          (prints_nothing a x h.trace (may_print a.form event false h.trace appends)) printed;
      durability = h.durability;
      lacks = h.lacks;
      tries = h.tries;
      fenced = fenced_both j.fencing j.fencing fencing h.trace (Happened event ∷ [])
          (may_fenced j.fencing event false h.trace appends) fenced;
    }

-- If the last append failed, the appends are logged together with a note.
pub tells_refused : (event : Event) (fault : AppendFault) (text : List ℕ) (seen later : PortsSeen)
    (x y : Option (List ℕ)) (a b : PrinterView) (j k : JournalView) →
    (h : AppendsBefore (Happened event ∷ []) (Err fault) seen later j k) → Prints a b x y (Noted text ∷ []) →
    LogsTrace (outside seen x a j) (outside later y b k) (h.trace ++ Noted text ∷ [])
tells_refused event fault text seen later x y a b j k h printed =
    let appends = failed_as event fault h.trace h.are in
    tells_both (outside seen x a j) (outside later x a k) (outside later y b k) h.trace (Noted text ∷ [])
    (tells_appends x a j k seen later h.trace h.logs (may_print a.form event true h.trace appends) h.durability
    (subst (λ (l : List TraceEntry). IsJournaled j.durability j.lacking l k.lacking) (append-nil h.trace) h.lacks)
    (subst (λ (l : List TraceEntry). IsTried j.durability j.untried l k.untried) (append-nil h.trace) h.tries)
    (fenced_as j.fencing k.fencing h.trace h.fencing (may_fenced j.fencing event true h.trace appends)))
    (tells_print later x y a b k (Noted text) refl tt printed)

-- ## The elements of a list

pub each_both : {A : Type 0} (R : A → World → List TraceEntry → World → Type 0) (xs ys : List A) (w mid next : World)
    (a b : List TraceEntry) → Each R xs w a mid → Each R ys mid b next → Each R (xs ++ ys) w (a ++ b) next
each_both R [] ys w mid next a b h k = subst (λ (v : World). Each R ys v (a ++ b) next) h.1
    (subst (λ (l : List TraceEntry). Each R ys mid l next) (ap (λ (l : List TraceEntry). l ++ b) (sym h.0)) k)
each_both R (x ∷ xs) ys w mid next a b h k = (
  h.0,
  h.1 ++ b,
  h.2,
  ap (λ (l : List TraceEntry). l ++ b) h.3 ∙
      append_assoc h.0 h.1 b,
  h.4,
  each_both R xs ys h.2 mid next h.1 b h.5 k,
)

pub each_one : {A : Type 0} (R : A → World → List TraceEntry → World → Type 0) (x : A) (w next : World) (a : List TraceEntry) →
    R x w a next → Each R (x ∷ []) w a next
each_one R x w next a h = (a, [], next, sym (append-nil a), h, (refl, refl))

pub each_more : {A : Type 0} (R : A → World → List TraceEntry → World → Type 0) (xs : List A) (x : A) (w mid next : World)
    (a b : List TraceEntry) → Each R xs w a mid → R x mid b next → Each R (xs ++ x ∷ []) w (a ++ b) next
each_more R xs x w mid next a b h k = each_both R xs (x ∷ []) w mid next a b h (each_one R x mid next b k)

pub range_more : (n : ℕ) → range_with_len 0 (n + 1) ≡ range_with_len 0 n ++ n ∷ []
range_more n =
    sym (map-id (range_with_len 0 (n + 1))) ∙ map-range_with_len_more (λ (k : ℕ). k) 0 n n (omega arith) ∙
    ap (λ (l : List ℕ). l ++ n ∷ []) (map-id (range_with_len 0 n))

-- ## From one core state to the next

-- Two steps are joined. The result may depend on the traces that were logged.
pub takes_joined : (a b c : CoreState) (x y z : Outside) (R S T : World → List TraceEntry → World → Type 0) →
    LeadsByTrace a b x y R → LeadsByTrace b c y z S →
    ((w mid next : World) (p q : List TraceEntry) → LogsTrace x y p → LogsTrace y z q →
    R w p mid → S mid q next → T w (p ++ q) next) → LeadsByTrace a c x z T
takes_joined a b c x y z R S T first second join w stands =
    let (p, mid, logged, r, held) = first w stands in
    let (q, next, more, s, kept) = second mid held in
    (p ++ q, next, tells_both x y z p q logged more, join w mid next p q logged more r s, kept)

pub takes_then : (a b c : CoreState) (x y z : Outside) (R S T : World → List TraceEntry → World → Type 0) →
    LeadsByTrace a b x y R → LeadsByTrace b c y z S →
    ((w mid next : World) (p q : List TraceEntry) → R w p mid → S mid q next →
    T w (p ++ q) next) → LeadsByTrace a c x z T
takes_then a b c x y z R S T first second join =
    takes_joined a b c x y z R S T first second (λ w mid next p q logged more. join w mid next p q)

-- The conclusion of a step may also depend on the trace that was logged.
pub takes_seen : (a b : CoreState) (x y : Outside) (R T : World → List TraceEntry → World → Type 0) →
    LeadsByTrace a b x y R → ((w next : World) (p : List TraceEntry) → LogsTrace x y p → R w p next → T w p next) →
    LeadsByTrace a b x y T
takes_seen a b x y R T first map w stands =
    let (p, next, logged, r, held) = first w stands in
    (p, next, logged, map w next p logged r, held)

pub takes_as : (a b : CoreState) (x y : Outside) (R T : World → List TraceEntry → World → Type 0) →
    LeadsByTrace a b x y R → ((w next : World) (p : List TraceEntry) → R w p next → T w p next) → LeadsByTrace a b x y T
takes_as a b x y R T first map w stands =
    let (p, next, logged, r, held) = first w stands in
    (p, next, logged, map w next p r, held)

-- A step that does nothing leaves everything unchanged.
pub takes_none : (a : CoreState) (x : Outside) (R : World → List TraceEntry → World → Type 0) →
    ((w : World) → R w [] w) → LeadsByTrace a a x x R
takes_none a x R same w stands = ([], w, tells_none x, same w, stands)

-- Entries that are logged and don't change the world form a step.
pub takes_told : (a : CoreState) (x y : Outside) (calls : List TraceEntry)
    (R : World → List TraceEntry → World → Type 0) → LogsTrace x y calls → ((w : World) → R w calls w) →
    LeadsByTrace a a x y R
takes_told a x y calls R logged same w stands = (calls, w, logged, same w, stands)

-- Calls and the core's step after them form one step.
pub takes_after : (a b : CoreState) (x y z : Outside) (calls : List TraceEntry)
    (S T : World → List TraceEntry → World → Type 0) → LogsTrace x y calls → LeadsByTrace a b y z S →
    ((w next : World) (q : List TraceEntry) → S w q next → T w (calls ++ q) next) → LeadsByTrace a b x z T
takes_after a b x y z calls S T logged second join w stands =
    let (q, next, more, s, kept) = second w stands in
    (calls ++ q, next, tells_both x y z calls q logged more, join w next q s, kept)

-- The turns of some sockets and the turn of one more socket form one step.
pub one_turn_more : (a b c : CoreState) (x y z : Outside) (setup : Setup) (socket : ℕ) →
    LeadsByTrace a b x y (Each (SocketTurn setup) (range_with_len 0 socket)) →
    LeadsByTrace b c y z (SocketTurn setup socket) →
    LeadsByTrace a c x z (Each (SocketTurn setup) (range_with_len 0 (socket + 1)))
one_turn_more a b c x y z setup socket first second =
    let turn = SocketTurn setup in
    subst (λ (l : List ℕ). LeadsByTrace a c x z (Each turn l)) (sym (range_more socket))
    (takes_then a b c x y z (Each turn (range_with_len 0 socket)) (turn socket)
    (Each turn (range_with_len 0 socket ++ socket ∷ [])) first second (each_more turn (range_with_len 0 socket) socket))
