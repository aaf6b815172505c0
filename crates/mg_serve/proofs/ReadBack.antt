-- A recording of a session is a script of its events.
use Rattle.std.proofs.Common.{◌≡◌, ◌≢◌, ℕ, ◌+◌, ◌<◌, inl, inr, Bool, true, false, zero, suc, List, [], ◌∷◌, ◌++◌, length, not, Option, Some, refl, sym, ap, subst, ◌∙◌, arith, codes, true≢false, ◌==◌, All}
use Rattle.std.proofs.lemmas.List.Elements.{All-nil, All-cons, All-head, All-tail, All-append, All-same, All-take, All-weaker, filter_passes}
use Rattle.std.proofs.lemmas.Bool.{eq-eqb}
use Rattle.std.specs.Io.KnownBytes.{Appends}
use Rattle.std.specs.List.{filter, range_with_len}
use Rattle.mg_checkpoint.specs.Checkpoint.{checkpoint_text}
use Rattle.mg_serve.specs.Renewal.{renewal_text}
use Rattle.mg_serve.specs.Setup.{Setup, is_admitted}
use Rattle.mg_words.specs.declared.peer.Peer.{Peer}
use Rattle.mg_engine.specs.Config.{IsValidConfig}
use Rattle.mg_core.specs.declared.event.Event.{Event}
use Rattle.mg_core.specs.declared.event.Event.TheVariants as events
use Rattle.mg_core.specs.Recording.{Entry, IsDatagram, IsRecorded, RecordingsAreRead, CutRecordingsAreRead, entry_line, events_in, recording_of}
use Rattle.mg_core.specs.Recording as entry
use Rattle.mg_core.specs.Run.{lines_for}
use Rattle.mg_core.specs.Script as script
use Rattle.mg_core.specs.Step.{Sent, Run}
use Rattle.mg_core.specs.World.{World, start_of}
use Rattle.mg_lines.specs.Lines.{lines_of}
use Rattle.mg_ports.specs.declared.call.Call.{Call}
use Rattle.mg_ports.specs.declared.call.Call.TheVariants.{Receive, BeginTick, Renew}
use Rattle.mg_ports.specs.declared.receipt.Receipt.TheVariants.{Delivered, Nothing, Failed}
use Rattle.mg_serve.specs.declared.command.Command.{Command}
use Rattle.mg_serve.specs.declared.command.Command.TheVariants.{Poll, Tick, Stats, Quit, Unknown}
use Rattle.mg_serve.specs.declared.form.Form.TheVariants.{Recording}
use Rattle.mg_serve.proofs.AppendLemmas.{IsAppend, only_appends}
use Rattle.mg_serve.specs.Theorems.{CutSessionsAreReadBack, ReplaysAreTheSession, SessionsAreReadBack, recorded}
use Rattle.mg_serve.specs.Serve.{opening}
use Rattle.mg_serve.specs.Session.{Each, Becomes, ReceivesDatagram, Performs, EndsTurn, HandlesDatagram, HandlesEvent, AppendsFor, MayRenew, Session, SocketTurn, event_at, sends_of}
use Rattle.mg_serve.specs.Trace.{TraceEntry, Called, Happened, Printed, Noted, Stale, events_of_trace, one_line, output_of}
use Rattle.mg_serve.proofs.OneLine.{short}
use Rattle.mg_serve.proofs.Runs.{session_run}

-- ## The entries of a recording

abbrev entries_of : List TraceEntry → List Entry
entries_of [] = []
entries_of (Called call ∷ trace) = entries_of trace
entries_of (Happened event ∷ trace) = entry.Happened event ∷ entries_of trace
entries_of (Printed text ∷ trace) = entry.Noted (one_line text) ∷ entries_of trace
entries_of (Noted text ∷ trace) = entry.Noted (one_line text) ∷ entries_of trace
entries_of (Stale source bytes ∷ trace) = entries_of trace

recording_is : (p : List TraceEntry) → output_of Recording p ≡ recording_of (entries_of p)
recording_is [] = refl
recording_is (Called call ∷ p) = recording_is p
recording_is (Happened event ∷ p) = ap (λ (l : List ℕ). entry_line (entry.Happened event) ++ l) (recording_is p)
recording_is (Printed text ∷ p) = ap (λ (l : List ℕ). entry_line (entry.Noted (one_line text)) ++ l) (recording_is p)
recording_is (Noted text ∷ p) = ap (λ (l : List ℕ). entry_line (entry.Noted (one_line text)) ++ l) (recording_is p)
recording_is (Stale source bytes ∷ p) = recording_is p

events_are : (p : List TraceEntry) → events_in (entries_of p) ≡ events_of_trace p
events_are [] = refl
events_are (Called call ∷ p) = events_are p
events_are (Happened event ∷ p) = ap (λ (l : List Event). event ∷ l) (events_are p)
events_are (Printed text ∷ p) = events_are p
events_are (Noted text ∷ p) = events_are p
events_are (Stale source bytes ∷ p) = events_are p

entries_both : (p q : List TraceEntry) → entries_of (p ++ q) ≡ entries_of p ++ entries_of q
entries_both [] q = refl
entries_both (Called call ∷ p) q = entries_both p q
entries_both (Happened event ∷ p) q = ap (λ (l : List Entry). entry.Happened event ∷ l) (entries_both p q)
entries_both (Printed text ∷ p) q = ap (λ (l : List Entry). entry.Noted (one_line text) ∷ l) (entries_both p q)
entries_both (Noted text ∷ p) q = ap (λ (l : List Entry). entry.Noted (one_line text) ∷ l) (entries_both p q)
entries_both (Stale source bytes ∷ p) q = entries_both p q

-- ## Entries that can be read back

-- All entries of the trace can be read back.
abbrev AreRead : List TraceEntry → Type 0
AreRead p = All IsRecorded (entries_of p)

read_both : (p q : List TraceEntry) → AreRead p → AreRead q → AreRead (p ++ q)
read_both p q h k = All-same IsRecorded (entries_of (p ++ q)) (entries_of p ++ entries_of q) (entries_both p q)
    (All-append IsRecorded (entries_of p) (entries_of q) h k)

read_as : (p q : List TraceEntry) → p ≡ q → AreRead q → AreRead p
read_as p q is h = subst AreRead (sym is) h

one_entry : (e : Entry) → IsRecorded e → All IsRecorded (e ∷ [])
one_entry e h = All-cons IsRecorded e [] h (All-nil IsRecorded)

no_feed : (b : ℕ) → not (b == 10) ≡ true → b ≢ 10
no_feed b passes is = absurd (true≢false (sym passes ∙ ap not (eq-eqb b 10 is)))

text_read : (text : List ℕ) → IsRecorded (entry.Noted (one_line text))
text_read text =
    let kept = filter (λ (b : ℕ). not (b == 10)) text in (
      short text,
      All-take (λ (b : ℕ). b ≢ 10) 1000 kept
          (All-weaker (λ (b : ℕ). not (b == 10) ≡ true) (λ (b : ℕ). b ≢ 10) no_feed kept
          (filter_passes (λ (b : ℕ). not (b == 10)) text)),
    )

printed_read : (text : List ℕ) → AreRead (Printed text ∷ [])
printed_read text = one_entry (entry.Noted (one_line text)) (text_read text)

noted_read : (text : List ℕ) → AreRead (Noted text ∷ [])
noted_read text = one_entry (entry.Noted (one_line text)) (text_read text)

no_entries : (setup : Setup) (sent : List Sent) → entries_of (sends_of setup sent) ≡ []
no_entries setup [] = refl
no_entries setup (datagram ∷ sent) = no_entries setup sent

sends_read : (setup : Setup) (sent : List Sent) → AreRead (sends_of setup sent)
sends_read setup sent = All-same IsRecorded (entries_of (sends_of setup sent)) [] (no_entries setup sent)
    (All-nil IsRecorded)

each_read : {A : Type 0} (R : A → World → List TraceEntry → World → Type 0) →
    ((x : A) (w next : World) (p : List TraceEntry) → R x w p next → AreRead p) → (xs : List A) (w next : World)
    (p : List TraceEntry) → Each R xs w p next → AreRead p
each_read R one [] w next p h = read_as p [] h.0 (All-nil IsRecorded)
each_read R one (x ∷ xs) w next p h = read_as p (h.0 ++ h.1) h.3
    (read_both h.0 h.1 (one x w h.2 h.0 h.4) (each_read R one xs h.2 next h.1 h.5))

-- If the traces of each socket can be read back, so can those of all sockets in turn.
sockets_read : (R : ℕ → World → List TraceEntry → World → Type 0) (first n : ℕ) →
    ((socket : ℕ) (w next : World) (p : List TraceEntry) → socket < first + n → R socket w p next → AreRead p) → (w next : World)
    (p : List TraceEntry) → Each R (range_with_len first n) w p next → AreRead p
sockets_read R first zero one w next p h = read_as p [] h.0 (All-nil IsRecorded)
sockets_read R first (suc n) one w next p h = read_as p (h.0 ++ h.1) h.3
    (read_both h.0 h.1 (one first w h.2 h.0 (omega arith) h.4)
    (sockets_read R (first + 1) n (λ socket v last q lt. one socket v last q (omega (arith, lt))) h.2 next h.1 h.5))

event_read : (setup : Setup) (event : Event) (w next : World) (p : List TraceEntry) → IsRecorded (entry.Happened event) →
    HandlesEvent setup event w p next → AreRead p
event_read setup event w next p fits (sent, step, is) = read_as p (Happened event ∷ sends_of setup sent) is
    (read_both (Happened event ∷ []) (sends_of setup sent) (one_entry (entry.Happened event) fits)
    (sends_read setup sent))

-- The event of a datagram that arrived at an existing socket can be read back.
datagram_read : (setup : Setup) (socket : ℕ) (source : Peer) (bytes : List ℕ) → IsValidConfig setup.config →
    socket < setup.config.slots + 1 → IsDatagram source bytes → IsRecorded (entry.Happened (event_at setup socket source bytes))
datagram_read setup zero source bytes valid lt fits = fits
datagram_read setup (suc s) source bytes valid lt fits = (omega (arith, lt, valid.limits.0.last), fits)

-- A call has no entry in a recording.
called_read : (call : Call) → AreRead (Called call ∷ [])
called_read call = All-nil IsRecorded

appends_read : (p : List TraceEntry) → All IsAppend p → AreRead p
appends_read [] all = All-nil IsRecorded
appends_read (Called call ∷ p) all = appends_read p (All-tail IsAppend (Called call) p all)
appends_read (Happened event ∷ p) all = absurd (All-head IsAppend (Happened event) p all)
appends_read (Printed text ∷ p) all = absurd (All-head IsAppend (Printed text) p all)
appends_read (Noted text ∷ p) all = absurd (All-head IsAppend (Noted text) p all)
appends_read (Stale source bytes ∷ p) all = absurd (All-head IsAppend (Stale source bytes) p all)

may_read : (event : Event) (failed : Bool) (p : List TraceEntry) → AppendsFor event failed p → AreRead p
may_read event failed p h = appends_read p (only_appends event failed p h)

renewal_read : (setup : Setup) (w : World) (p : List TraceEntry) → MayRenew setup w p → AreRead p
renewal_read setup w p (inl none) = read_as p [] none (All-nil IsRecorded)
renewal_read setup w p (inr (appends, failed, are, reached, durability, result, is, fits, restorable)) =
    let renew = Renew (renewal_text setup.head (checkpoint_text w) reached) durability result in
    read_as p (appends ++ Called renew ∷ []) is
    (read_both appends (Called renew ∷ []) (may_read events.Tick failed appends are) (called_read renew))

handled_read : (setup : Setup) (socket : ℕ) (event : Event) (w next : World) (p : List TraceEntry) →
    IsRecorded (entry.Happened event) → HandlesDatagram setup socket event w p next → AreRead p
handled_read setup zero event w next p fits (appends, others, is, inl (are, h)) =
    read_as p (appends ++ others) is
    (read_both appends others (may_read event false appends are) (event_read setup event w next others fits h))
handled_read setup zero event w next p fits (appends, others, is, inr (are, (last, same))) =
    let text = codes "no journal for a control datagram" in
    read_as p (appends ++ others) is
    (read_both appends others (may_read event true appends are)
    (read_as others (Noted text ∷ []) last (noted_read text)))
handled_read setup (suc s) event w next p fits h = event_read setup event w next p fits h

become_read : (admitted : Bool) (setup : Setup) (socket : ℕ) → IsValidConfig setup.config →
    socket < setup.config.slots + 1 → (datagram : Peer × List ℕ) (w next : World) (p : List TraceEntry) →
    IsDatagram datagram.0 datagram.1 → Becomes admitted setup socket datagram w p next → AreRead p
become_read true setup socket valid lt datagram w next p fits (inl h) =
    handled_read setup socket (event_at setup socket datagram.0 datagram.1) w next p
    (datagram_read setup socket datagram.0 datagram.1 valid lt fits) h
become_read true setup socket valid lt datagram w next p fits (inr (control, inl (is, same))) =
    read_as p (Noted (codes "no memory for a control datagram") ∷ []) is
    (noted_read (codes "no memory for a control datagram"))
become_read true setup socket valid lt datagram w next p fits (inr (control, inr (is, same))) =
    read_as p (Stale datagram.0 datagram.1 ∷ []) is (All-nil IsRecorded)
become_read false setup socket valid lt datagram w next p fits h = read_as p [] h.0 (All-nil IsRecorded)

comes_read : (setup : Setup) (socket : ℕ) → IsValidConfig setup.config → socket < setup.config.slots + 1 →
    (datagram : Peer × List ℕ) (w next : World) (p : List TraceEntry) → ReceivesDatagram setup socket datagram w p next → AreRead p
comes_read setup socket valid lt datagram w next p (others, fits, is, h) =
    read_as p (Called (Receive socket (Delivered datagram.0 datagram.1)) ∷ others) is
    (become_read (is_admitted setup w socket datagram.0) setup socket valid lt datagram w next others fits h)

ends_read : (socket arrived : ℕ) (p : List TraceEntry) → EndsTurn socket arrived p → AreRead p
ends_read socket arrived p (inl h) = read_as p [] h.1 (All-nil IsRecorded)
ends_read socket arrived p (inr (few, inl h)) = read_as p (Called (Receive socket Nothing) ∷ []) h (All-nil IsRecorded)
ends_read socket arrived p (inr (few, inr h)) = read_as p (Called (Receive socket Failed) ∷ []) h (All-nil IsRecorded)

turn_read : (setup : Setup) → IsValidConfig setup.config → (socket : ℕ) (w next : World) (p : List TraceEntry) →
    socket < setup.config.slots + 1 → SocketTurn setup socket w p next → AreRead p
turn_read setup valid socket w next p lt h = read_as p (h.received ++ h.last) h.parts
    (read_both h.received h.last
    (each_read (ReceivesDatagram setup socket) (comes_read setup socket valid lt) h.datagrams w next h.received h.arrivals)
    (ends_read socket (length h.datagrams) h.last h.ends))

does_read : (setup : Setup) → IsValidConfig setup.config → (command : Command) (w next : World) (p : List TraceEntry) →
    Performs setup command w p next → AreRead p
does_read setup valid Poll w next p h =
    sockets_read (SocketTurn setup) 0 (setup.config.slots + 1)
    (λ socket v last q lt. turn_read setup valid socket v last q (omega (arith, lt))) w next p h
does_read setup valid (Tick timing) w next p (happening, appends, renewal, is, h, failed, may, renews) =
    read_as p (Called (BeginTick timing) ∷ (happening ++ (appends ++ renewal))) is
    (read_both happening (appends ++ renewal) (event_read setup events.Tick w next happening tt h)
    (read_both appends renewal (may_read events.Tick failed appends may) (renewal_read setup next renewal renews)))
does_read setup valid Stats w next p (text, is, same) = read_as p (Printed text ∷ []) is (printed_read text)
does_read setup valid Quit w next p h = read_as p [] h.0 (All-nil IsRecorded)
does_read setup valid Unknown w next p h =
    read_as p (Printed (codes "unknown command") ∷ []) h.0 (printed_read (codes "unknown command"))

session_read : (setup : Setup) (title : List ℕ) (commands : List Command) (w next : World) (p : List TraceEntry) →
    IsValidConfig setup.config → Session setup commands w p next → AreRead (opening (Some title) ++ p)
session_read setup title commands w next p valid h =
    read_both (opening (Some title)) p
    (read_both (Noted title ∷ []) (Printed (codes "ready") ∷ []) (noted_read title) (printed_read (codes "ready")))
    (each_read (Performs setup) (does_read setup valid) commands w next p h)

-- ## Recordings repeat the session

pub read_back : RecordingsAreRead → SessionsAreReadBack
read_back law setup title commands w next p valid h =
    let all = opening (Some title) ++ p in
    rw (recording_is all) (law (entries_of all) (session_read setup title commands w next p valid h)) ∙
    ap (λ (es : List Event). Some es) (events_are all)

pub cut_read_back : CutRecordingsAreRead → CutSessionsAreReadBack
cut_read_back law setup title commands w next p front rest valid h parts =
    let all = opening (Some title) ++ p in
    let (first, others, is, read) =
    law (entries_of all) front rest (session_read setup title commands w next p valid h) (sym (recording_is all) ∙ parts)
    in (
      events_in first,
      events_in others,
      sym (events_are all) ∙ ap events_in is ∙ events_in_both first others,
      read,
    )
  where
    events_in_both : (es fs : List Entry) → events_in (es ++ fs) ≡ events_in es ++ events_in fs
    events_in_both [] fs = refl
    events_in_both (entry.Happened event ∷ es) fs = ap (λ (l : List Event). event ∷ l) (events_in_both es fs)
    events_in_both (entry.Noted text ∷ es) fs = events_in_both es fs

-- A list of events has at most one outcome in each world.
abbrev pub OneOutcome : Type 0
OneOutcome = (w : World) (events : List Event) (a b : List Sent) (x y : World) → Run w events a x → Run w events b y
    → (a ≡ b) × (x ≡ y)

same_events : (a b : Option (List Event)) (xs ys : List Event) → a ≡ Some xs → b ≡ Some ys → a ≡ b → xs ≡ ys
same_events a b xs ys h k is = cc

pub replayed : RecordingsAreRead → OneOutcome → ReplaysAreTheSession
replayed law one setup title commands next p counts old new valid h ran =
    let session = session_run setup commands (start_of setup.config) next p h in
    let same : ran.ran.events ≡ events_of_trace p =
    same_events (script.events_of (lines_of true (recorded title p)))
    (script.events_of (lines_of true (recorded title p))) ran.ran.events (events_of_trace p) ran.ran.are
    (read_back law setup title commands (start_of setup.config) next p valid h) refl in
    let both = one (start_of setup.config) (events_of_trace p) ran.ran.sent session.sent ran.last next
    (subst (λ (es : List Event). Run (start_of setup.config) es ran.ran.sent ran.last) same ran.ran.run) session.run in
    record {
      session = session;
      written = subst (λ (s : List Sent). Appends old new (lines_for s)) both.0
          (subst (λ (t : List ℕ). Appends old new t) ran.ran.is_text ran.ran.written);
      same = both.1;
    }
