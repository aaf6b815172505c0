-- The steps of a server, in terms of the worlds that its core represents.
use Rattle.std.proofs.Common.{◌≡◌, ◌≢◌, ℕ, zero, suc, ◌+◌, ◌-◌, ◌<◌, ◌≤◌, inl, inr, Bool, true, false, List, [], ◌∷◌, ◌++◌, length, map, Option, Ok, Err, refl, sym, ap, subst, ◌∙◌, append_assoc, arith, codes}
use Rattle.std.proofs.lemmas.List.{append-nil, length_push}
use Rattle.std.specs.List.{list_any, range_with_len}
use Rattle.mg_serve.specs.declared.fencing.Fencing.{Fencing}
use Rattle.mg_clock.specs.declared.timing.Timing.{Timing}
use Rattle.mg_serve.specs.Setup.{Setup, is_admitted}
use Rattle.mg_words.specs.declared.peer.Peer.{Peer}
use Rattle.mg_engine.specs.declared.datagram.Datagram.{Datagram}
use Rattle.mg_engine.specs.declared.taken.Taken.{Taken}
use Rattle.mg_rooms.specs.Limits.{slot_port}
use Rattle.mg_engine.specs.Config.{limits_of}
use Rattle.mg_core.specs.declared.event.Event.{Event}
use Rattle.mg_core.specs.declared.event.Event.TheVariants as events
use Rattle.mg_core.specs.declared.state.CoreState.{CoreState}
use Rattle.mg_core.specs.Recording.{IsDatagram}
use Rattle.mg_core.specs.World.{World, TakesMedia, packets_of, world_after_tick}
use Rattle.mg_core.specs.aids.Stands.{StandsFor}
use Rattle.mg_core.specs.Step.{Sent, Packet, Step}
use Rattle.mg_words.specs.Leads.{Leads}
use Rattle.mg_ports.specs.declared.call.Call.{Call}
use Rattle.mg_ports.specs.declared.call.Call.TheVariants.{Receive, BeginTick}
use Rattle.mg_ports.specs.Calls.{Grows}
use Rattle.mg_ports.specs.Journaled.{PortsSeen}
use Rattle.mg_journal.specs.declared.append_fault.AppendFault.{AppendFault}
use Rattle.mg_ports.specs.declared.receipt.Receipt.TheVariants.{Delivered, Nothing, Failed}
use Rattle.mg_serve.specs.declared.command.Command.{Command}
use Rattle.mg_serve.specs.declared.command.Command.TheVariants.{Poll, Tick, Stats, Quit, Unknown}
use Rattle.mg_serve.specs.declared.form.Form.{Form}
use Rattle.mg_serve.specs.declared.form.Form.TheVariants.{Plain, Recording}
use Rattle.mg_serve.specs.Lines.{line_command, prints}
use Rattle.mg_serve.specs.Journaled.{is_append}
use Rattle.mg_serve.proofs.AppendLemmas.{appended_as, failed_as}
use Rattle.mg_serve.specs.Session.{Each, Becomes, ReceivesDatagram, Performs, EndsTurn, HandlesDatagram, HandlesEvent, SocketTurn, event_at, send_of, sends_of}
use Rattle.mg_serve.specs.Trace.{TraceEntry, Called, Happened, Noted, Stale, output_of}
use Rattle.mg_serve.specs.aids.Driving.{Finished, Received}
use Rattle.mg_serve.specs.aids.Printing.{PrinterView, Prints, Puts}
use Rattle.mg_serve.specs.aids.Outside.{JournalView, Outside, LeadsByTrace, LogsTrace, outside}
use Rattle.mg_serve.specs.aids.Journaling.{AppendsBefore, EndsTick, with_tick, RenewsIfDue}
use Rattle.mg_fence.specs.Fence.{passes}
use Rattle.mg_fence.specs.Number.{HasNumber}
use Rattle.mg_serve.specs.Fenced.{IsFenced}
use Rattle.mg_serve.proofs.FenceLemmas.{fenced_as, may_fenced}
use Rattle.mg_serve.proofs.JournalLemmas.{may_print, renewal_prints, stale_journaled, stale_tried, tick_journaled, tick_tried}
use Rattle.mg_serve.proofs.Printing.{output_both, prints_nothing}
use Rattle.mg_serve.proofs.Taking.{called, tells_announced, tells_appends, tells_both, tells_called, tells_print, tells_print_then, tells_refused, each_more, takes_after, takes_none}

-- If a control datagram was announced, run and printed, and its answer (if any) was sent, the datagram was handled.
pub control_answered : (setup : Setup) (source : Peer) (bytes : List ℕ) (sent : List Sent) (old new : CoreState)
    (seen later : PortsSeen) (x y : Option (List ℕ)) (a b : PrinterView) (j k m : JournalView) (fencing : Fencing)
    (z : Outside) → AppendsBefore (Happened (events.Control source bytes) ∷ []) (Ok tt) seen later j k →
    m ≡ record k { fencing = fencing } → IsFenced j.fencing (Happened (events.Control source bytes) ∷ []) fencing →
    Leads StandsFor old new (λ w next. Step w (events.Control source bytes) sent next) →
    Prints a b x y (Happened (events.Control source bytes) ∷ []) →
    LogsTrace (outside later y b m) z (sends_of setup sent) →
    LeadsByTrace old new (outside seen x a j) z (Becomes true setup 0 (source, bytes))
control_answered setup source bytes sent old new seen later x y a b j k m fencing z appends is fenced h printed logged w
    stands =
    let event = events.Control source bytes in
    let (next, step, held) = h w stands in (
      appends.trace ++ (Happened event ∷ sends_of setup sent),
      next,
      subst (λ (l : List TraceEntry). LogsTrace (outside seen x a j) z l)
          (append_assoc appends.trace (Happened event ∷ []) (sends_of setup sent))
          (tells_both (outside seen x a j) (outside later y b m) z (appends.trace ++ Happened event ∷ [])
          (sends_of setup sent)
          (subst (λ (v : JournalView).
          LogsTrace (outside seen x a j) (outside later y b v) (appends.trace ++ Happened event ∷ [])) (sym is)
          (tells_announced event seen later x y a b j k fencing appends printed fenced)) logged),
      inl (appends.trace, Happened event ∷ sends_of setup sent, refl, inl (appended_as event appends.trace appends.are, (sent, step, refl))),
      held,
    )

-- If an append fails, and a note reports this, the control datagram is dropped.
pub control_refused : (setup : Setup) (source : Peer) (bytes : List ℕ) (fault : AppendFault) (core : CoreState)
    (seen later : PortsSeen) (x y : Option (List ℕ)) (a b : PrinterView) (j k : JournalView) →
    AppendsBefore (Happened (events.Control source bytes) ∷ []) (Err fault) seen later j k →
    Prints a b x y (Noted (codes "no journal for a control datagram") ∷ []) →
    LeadsByTrace core core (outside seen x a j) (outside later y b k) (Becomes true setup 0 (source, bytes))
control_refused setup source bytes fault core seen later x y a b j k h printed w stands =
    let noted = Noted (codes "no journal for a control datagram") in
    let event = events.Control source bytes in (
      h.trace ++ noted ∷ [],
      w,
      tells_refused event fault (codes "no journal for a control datagram") seen later x y a b j k h printed,
      inl (h.trace, noted ∷ [], refl, inr (failed_as event fault h.trace h.are, (refl, refl))),
      stands,
    )

-- If memory runs out, and a note reports this, the control datagram is dropped.
pub control_unread : (setup : Setup) (source : Peer) (bytes : List ℕ) (core : CoreState) (seen : PortsSeen)
    (x y : Option (List ℕ)) (a b : PrinterView) (j : JournalView) →
    Prints a b x y (Noted (codes "no memory for a control datagram") ∷ []) →
    LeadsByTrace core core (outside seen x a j) (outside seen y b j) (Becomes true setup 0 (source, bytes))
control_unread setup source bytes core seen x y a b j printed w stands =
    let noted = Noted (codes "no memory for a control datagram") in
    (noted ∷ [], w, tells_print seen x y a b j noted refl tt printed, inr (refl, inl (refl, refl)), stands)

stale_prints : (form : Form) (source : Peer) (bytes : List ℕ) → output_of form (Stale source bytes ∷ []) ≡ []
stale_prints Plain source bytes = refl
stale_prints Recording source bytes = refl

-- If a control datagram doesn't pass the fence, it is dropped.
pub control_stale : (setup : Setup) (source : Peer) (bytes : List ℕ) (number : Option ℕ) (core : CoreState)
    (seen : PortsSeen) (x : Option (List ℕ)) (a : PrinterView) (j : JournalView) → HasNumber bytes number →
    passes j.fencing.fence bytes number ≡ false →
    LeadsByTrace core core (outside seen x a j) (outside seen x a j) (Becomes true setup 0 (source, bytes))
control_stale setup source bytes number core seen x a j has fails w stands =
    let stale = Stale source bytes in (
      stale ∷ [],
      w,
      tells_print_then seen x x a a j j stale refl (prints_nothing a x (stale ∷ []) (stale_prints a.form source bytes)) refl
          (stale_journaled j.durability j.lacking source bytes) (stale_tried j.durability j.untried source bytes)
          (number, has, fails, refl),
      inr (refl, inr (refl, refl)),
      stands,
    )

-- An event may be handled without any appends before it.
handles : (setup : Setup) (socket : ℕ) (event : Event) (w next : World) (p : List TraceEntry) →
    HandlesEvent setup event w p next → HandlesDatagram setup socket event w p next
handles setup zero event w next p h = ([], p, refl, inl (refl, h))
handles setup (suc s) event w next p h = h

-- An RTP datagram is handled without any call on the ports.
pub media_taken : (setup : Setup) (socket : ℕ) (source : Peer) (bytes : List ℕ) (old new : CoreState)
    (seen : PortsSeen) (x y : Option (List ℕ)) (a b : PrinterView) (j : JournalView) → 1 ≤ socket →
    Leads StandsFor old new (λ w next. Step w (event_at setup socket source bytes) [] next) →
    Prints a b x y (Happened (event_at setup socket source bytes) ∷ []) →
    LeadsByTrace old new (outside seen x a j) (outside seen y b j) (Becomes true setup socket (source, bytes))
media_taken setup zero source bytes old new seen x y a b j first h printed w stands = absurd (omega arith)
media_taken setup (suc s) source bytes old new seen x y a b j first h printed w stands =
    let event = event_at setup (suc s) source bytes in
    let (next, step, held) = h w stands in (
      Happened event ∷ [],
      next,
      tells_print seen x y a b j (Happened event) refl tt printed,
      inl (handles setup (suc s) event w next (Happened event ∷ []) ([], step, refl)),
      held,
    )

-- A socket with the number 0 is the control socket.
pub at_control : (setup : Setup) (socket : ℕ) (source : Peer) (bytes : List ℕ) (old new : CoreState)
    (x y : Outside) → socket ≡ 0 → LeadsByTrace old new x y (Becomes true setup 0 (source, bytes)) →
    LeadsByTrace old new x y (Becomes true setup socket (source, bytes))
at_control setup socket source bytes old new x y is h =
    subst (λ (s : ℕ). LeadsByTrace old new x y (Becomes true setup s (source, bytes))) (sym is) h

-- A datagram is ignored if its sender isn't admitted.
pub not_admitted : (setup : Setup) (socket : ℕ) (datagram : Peer × List ℕ) (core : CoreState) (x : Outside) →
    LeadsByTrace core core x x (Becomes false setup socket datagram)
not_admitted setup socket datagram core x = takes_none core x (Becomes false setup socket datagram) (λ w. (refl, refl))

-- The effect of a datagram, which depends on whether its sender is admitted in this world.
abbrev pub BecomesIfAdmitted : Setup → ℕ → Peer × List ℕ → World → List TraceEntry → World → Type 0
BecomesIfAdmitted setup socket datagram w trace next =
    Becomes (is_admitted setup w socket datagram.0) setup socket datagram w trace next

pub by_admission : (admitted : Bool) (setup : Setup) (socket : ℕ) (datagram : Peer × List ℕ) (old new : CoreState)
    (x y : Outside) → ((w : World) → StandsFor old w → admitted ≡ is_admitted setup w socket datagram.0) →
    LeadsByTrace old new x y (Becomes admitted setup socket datagram) →
    LeadsByTrace old new x y (BecomesIfAdmitted setup socket datagram)
by_admission admitted setup socket datagram old new x y same h w stands =
    let (trace, next, logged, becomes, after) = h w stands in
    (trace, next, logged, subst (λ (b : Bool). Becomes b setup socket datagram w trace next) (same w stands) becomes, after)

-- If a receive returned a datagram, and the datagram was handled, the receive is done.
pub arrived : (setup : Setup) (socket : ℕ) (source : Peer) (bytes : List ℕ) (old new : CoreState) (x y z : Outside) →
    IsDatagram source bytes → LogsTrace x y (Called (Receive socket (Delivered source bytes)) ∷ []) →
    LeadsByTrace old new y z (BecomesIfAdmitted setup socket (source, bytes)) →
    LeadsByTrace old new x z (Received setup socket true)
arrived setup socket source bytes old new x y z fits logged h =
    takes_after old new x y z (Called (Receive socket (Delivered source bytes)) ∷ [])
    (BecomesIfAdmitted setup socket (source, bytes))
    (Received setup socket true) logged h (λ w next q s. ((source, bytes), (q, fits, refl, s)))

-- ## A socket's turn

-- This many datagrams were received and handled.
abbrev pub HaveCome : Setup → ℕ → ℕ → World → List TraceEntry → World → Type 0
HaveCome setup socket n w calls now = (datagrams : List (Peer × List ℕ)) × (length datagrams ≡ n) ×
    Each (ReceivesDatagram setup socket) datagrams w calls now

pub none_came : (setup : Setup) (socket : ℕ) (w : World) → HaveCome setup socket 0 w [] w
none_came setup socket w = ([], refl, (refl, refl))

pub one_more : (setup : Setup) (socket n : ℕ) (w mid next : World) (p q : List TraceEntry) →
    HaveCome setup socket n w p mid → Received setup socket true mid q next → HaveCome setup socket (n + 1) w (p ++ q) next
one_more setup socket n w mid next p q h k = (
  h.0 ++ k.0 ∷ [],
  length_push h.0 k.0 ∙ ap (λ (m : ℕ). m + 1) h.1,
  each_more (ReceivesDatagram setup socket) h.0 k.0 w mid next p q h.2 k.1,
)

pub turn_ended : (setup : Setup) (socket n : ℕ) (w mid next : World) (p q : List TraceEntry) → n < 64 →
    HaveCome setup socket n w p mid → Received setup socket false mid q next → SocketTurn setup socket w (p ++ q) next
turn_ended setup socket n w mid next p q few h k = record {
  datagrams = h.0;
  received = p;
  last = q;
  parts = refl;
  arrivals = subst (λ (v : World). Each (ReceivesDatagram setup socket) h.0 w p v) (sym k.1) h.2;
  ends = inr (omega (arith, few, h.1), k.0);
}

pub turn_full : (setup : Setup) (socket : ℕ) (w next : World) (p : List TraceEntry) → HaveCome setup socket 64 w p next →
    SocketTurn setup socket w p next
turn_full setup socket w next p h =
    record {
      datagrams = h.0;
      received = p;
      last = [];
      parts = sym (append-nil p);
      arrivals = h.2;
      ends = inl (h.1, refl);
    }

-- ## A tick

abbrev packet_sends : Setup → List Datagram → List Call
packet_sends setup packets = map (λ (packet : Datagram). send_of setup (Packet packet)) packets

same_sends : (setup : Setup) (packets : List Datagram) →
    sends_of setup (map Packet packets) ≡ called (packet_sends setup packets)
same_sends setup [] = refl
same_sends setup (packet ∷ packets) =
    ap (λ (l : List TraceEntry). Called (send_of setup (Packet packet)) ∷ l) (same_sends setup packets)

sends_quiet : (setup : Setup) (packets : List Datagram) → list_any is_append (packet_sends setup packets) ≡ false
sends_quiet setup [] = refl
sends_quiet setup (packet ∷ packets) = sends_quiet setup packets

pub tick_sent : (setup : Setup) (timing : Timing) (old new : CoreState) (outbox : List Datagram)
    (before begun sent ticked after : PortsSeen) (x y : Option (List ℕ)) (a b : PrinterView) (j m k : JournalView) →
    ((w : World) → StandsFor old w → outbox ≡ packets_of w) →
    ((w : World) → StandsFor old w → StandsFor new (world_after_tick w)) →
    Grows before.calls begun.calls (BeginTick timing ∷ []) → begun.journal ≡ before.journal →
    Prints a b x y (Happened events.Tick ∷ []) →
    Grows begun.calls sent.calls (map (λ (packet : Datagram). send_of setup (Packet packet)) outbox) →
    sent.journal ≡ begun.journal → EndsTick sent ticked j m →
    ((w : World) → StandsFor new w → RenewsIfDue setup w ticked after m k) →
    LeadsByTrace old new (outside before x a j) (outside after y b k) (Performs setup (Tick timing))
tick_sent setup timing old new outbox before begun sent ticked after x y a b j m k packets moved begins same printed
    logged kept ended renews w stands =
    let happens = Happened events.Tick ∷ called (packet_sends setup outbox) in
    let i = with_tick j in
    let begin = tells_called x a j before begun (BeginTick timing ∷ []) begins refl same in
    let tick = tells_print_then begun x y a b j i (Happened events.Tick) refl printed refl
    (tick_journaled j.durability j.lacking) (tick_tried j.durability j.untried ended.in_time) refl in
    let sends = tells_called y b i begun sent (packet_sends setup outbox) logged (sends_quiet setup outbox) kept in
    let appends = tells_appends y b i m sent ticked ended.appends ended.logs (may_print b.form events.Tick ended.failed ended.appends ended.may)
    ended.durability ended.lacks ended.tries
    (fenced_as j.fencing m.fencing ended.appends ended.fencing (may_fenced j.fencing events.Tick ended.failed ended.appends ended.may)) in
    let due = renews (world_after_tick w) (moved w stands) in
    let renewal = tells_appends y b m k ticked after due.renewal due.logs
    (renewal_prints b.form setup (world_after_tick w) due.renewal due.may) due.durability due.lacks due.tries
    (fenced_as m.fencing k.fencing due.renewal due.fencing due.says) in
    let end = ended.appends ++ due.renewal in
    let ends = tells_both (outside sent y b i) (outside ticked y b m) (outside after y b k) ended.appends due.renewal
    appends renewal in (
      Called (BeginTick timing) ∷ (happens ++ end),
      world_after_tick w,
      tells_both (outside before x a j) (outside begun x a j) (outside after y b k) (Called (BeginTick timing) ∷ [])
          (happens ++ end) begin
          (tells_both (outside begun x a j) (outside sent y b i) (outside after y b k) happens end
          (tells_both (outside begun x a j) (outside begun y b i) (outside sent y b i) (Happened events.Tick ∷ [])
          (called (packet_sends setup outbox)) tick sends) ends),
      (
        happens,
        ended.appends,
        due.renewal,
        refl,
        (
          map Packet (packets_of w),
          (refl, refl),
          ap (λ (l : List TraceEntry). Happened events.Tick ∷ l)
              (ap (λ (l : List Datagram). called (packet_sends setup l)) (packets w stands) ∙
              sym (same_sends setup (packets_of w))),
        ),
        ended.failed,
        ended.may,
        due.may,
      ),
      moved w stands,
    )

-- ## The last line

pub finished_none : (setup : Setup) (kept : List ℕ) (w : World) → length kept ≡ 0 → Finished setup kept w [] w
finished_none setup [] w none = (refl, refl)
finished_none setup (b ∷ bs) w none = absurd (omega (arith, none))

pub finished_some : (setup : Setup) (kept : List ℕ) (w next : World) (p : List TraceEntry) → (length kept ≡ 0 → ⊥) →
    Performs setup (line_command kept) w p next → Finished setup kept w p next
finished_some setup [] w next p some h = absurd (some refl)
finished_some setup (b ∷ bs) w next p some h = h

-- ## The printed text

-- Nothing is printed for this trace in plain form.
abbrev IsQuiet : List TraceEntry → Type 0
IsQuiet p = output_of Plain p ≡ []

quiet_both : (p q : List TraceEntry) → IsQuiet p → IsQuiet q → IsQuiet (p ++ q)
quiet_both p q h k = output_both Plain p q ∙ ap (λ (l : List ℕ). l ++ output_of Plain q) h ∙ k

quiet_as : (p q : List TraceEntry) → p ≡ q → IsQuiet q → IsQuiet p
quiet_as p q is h = ap (output_of Plain) is ∙ h

quiet_sends : (setup : Setup) (sent : List Sent) → IsQuiet (sends_of setup sent)
quiet_sends setup [] = refl
quiet_sends setup (datagram ∷ sent) = quiet_sends setup sent

quiet_each : {A : Type 0} (R : A → World → List TraceEntry → World → Type 0) →
    ((x : A) (w next : World) (p : List TraceEntry) → R x w p next → IsQuiet p) → (xs : List A) (w next : World)
    (p : List TraceEntry) → Each R xs w p next → IsQuiet p
quiet_each R one [] w next p h = quiet_as p [] h.0 refl
quiet_each R one (x ∷ xs) w next p h = quiet_as p (h.0 ++ h.1) h.3
    (quiet_both h.0 h.1 (one x w h.2 h.0 h.4) (quiet_each R one xs h.2 next h.1 h.5))

quiet_event : (setup : Setup) (event : Event) (w next : World) (p : List TraceEntry) → HandlesEvent setup event w p next →
    IsQuiet p
quiet_event setup event w next p h = quiet_as p (Happened event ∷ sends_of setup h.0) h.2 (quiet_sends setup h.0)

quiet_datagram : (setup : Setup) (socket : ℕ) (event : Event) (w next : World) (p : List TraceEntry) →
    HandlesDatagram setup socket event w p next → IsQuiet p
quiet_datagram setup zero event w next p (appends, others, is, inl (are, h)) = quiet_as p (appends ++ others) is
    (quiet_both appends others (may_print Plain event false appends are) (quiet_event setup event w next others h))
quiet_datagram setup zero event w next p (appends, others, is, inr (are, (last, same))) =
    let noted = Noted (codes "no journal for a control datagram") in
    quiet_as p (appends ++ others) is (quiet_both appends others (may_print Plain event true appends are)
    (quiet_as others (noted ∷ []) last refl))
quiet_datagram setup (suc s) event w next p h = quiet_event setup event w next p h

quiet_becomes : (admitted : Bool) (setup : Setup) (socket : ℕ) (datagram : Peer × List ℕ) (w next : World)
    (p : List TraceEntry) → Becomes admitted setup socket datagram w p next → IsQuiet p
quiet_becomes true setup socket datagram w next p (inl h) =
    quiet_datagram setup socket (event_at setup socket datagram.0 datagram.1) w next p h
quiet_becomes true setup socket datagram w next p (inr (control, inl (is, same))) =
    quiet_as p (Noted (codes "no memory for a control datagram") ∷ []) is refl
quiet_becomes true setup socket datagram w next p (inr (control, inr (is, same))) =
    quiet_as p (Stale datagram.0 datagram.1 ∷ []) is refl
quiet_becomes false setup socket datagram w next p h = quiet_as p [] h.0 refl

quiet_comes : (setup : Setup) (socket : ℕ) (datagram : Peer × List ℕ) (w next : World) (p : List TraceEntry) →
    ReceivesDatagram setup socket datagram w p next → IsQuiet p
quiet_comes setup socket datagram w next p (others, fits, is, h) =
    quiet_as p (Called (Receive socket (Delivered datagram.0 datagram.1)) ∷ others) is
    (quiet_becomes (is_admitted setup w socket datagram.0) setup socket datagram w next others h)

quiet_end : (socket arrived : ℕ) (p : List TraceEntry) → EndsTurn socket arrived p → IsQuiet p
quiet_end socket arrived p (inl h) = quiet_as p [] h.1 refl
quiet_end socket arrived p (inr (few, inl h)) = quiet_as p (Called (Receive socket Nothing) ∷ []) h refl
quiet_end socket arrived p (inr (few, inr h)) = quiet_as p (Called (Receive socket Failed) ∷ []) h refl

quiet_turn : (setup : Setup) (socket : ℕ) (w next : World) (p : List TraceEntry) → SocketTurn setup socket w p next → IsQuiet p
quiet_turn setup socket w next p h = quiet_as p (h.received ++ h.last) h.parts
    (quiet_both h.received h.last
    (quiet_each (ReceivesDatagram setup socket) (quiet_comes setup socket) h.datagrams w next h.received h.arrivals)
    (quiet_end socket (length h.datagrams) h.last h.ends))

-- If a command prints text, `prints` is true for this command.
pub prints_some : (form : Form) (setup : Setup) (command : Command) (w next : World) (p : List TraceEntry) →
    Performs setup command w p next → output_of form p ≢ [] → prints form command ≡ true
prints_some Plain setup Poll w next p h some = absurd
    (some (quiet_each (SocketTurn setup) (quiet_turn setup) (range_with_len 0 (setup.config.slots + 1)) w next p h))
prints_some Plain setup (Tick timing) w next p (happening, appends, renewal, is, h, failed, may, renews) some = absurd
    (some (quiet_as p (Called (BeginTick timing) ∷ (happening ++ (appends ++ renewal))) is
    (quiet_both happening (appends ++ renewal) (quiet_event setup events.Tick w next happening h)
    (quiet_both appends renewal (may_print Plain events.Tick failed appends may) (renewal_prints Plain setup next renewal renews)))))
prints_some Plain setup Stats w next p h some = refl
prints_some Plain setup Quit w next p h some = absurd (some (ap (output_of Plain) h.0))
prints_some Plain setup Unknown w next p h some = refl
prints_some Recording setup Poll w next p h some = refl
prints_some Recording setup (Tick timing) w next p h some = refl
prints_some Recording setup Stats w next p h some = refl
prints_some Recording setup Quit w next p h some = absurd (some (ap (output_of Recording) h.0))
prints_some Recording setup Unknown w next p h some = refl

-- If finishing a partial line prints something, the partial line is not empty.
pub finished_prints : (form : Form) (setup : Setup) (kept : List ℕ) (w next : World) (p : List TraceEntry) →
    Finished setup kept w p next → output_of form p ≢ [] → (0 < length kept) × (prints form (line_command kept) ≡ true)
finished_prints form setup [] w next p h some = absurd (some (ap (output_of form) h.0))
finished_prints form setup (b ∷ bs) w next p h some =
    (omega arith, prints_some form setup (line_command (b ∷ bs)) w next p h some)

-- If printing fails, there was something to print.
puts_failed : (a b : Bool) (text : List ℕ) (x y : Option (List ℕ)) → a ≡ false → b ≡ true → Puts a b text x y →
    text ≢ []
puts_failed false true text x y before after h = h.0
puts_failed false false text x y before after h = absurd cc
puts_failed true b text x y before after h = absurd cc

pub some_printed : (x y : Outside) (p : List TraceEntry) → x.printer.has_failed ≡ false → y.printer.has_failed ≡ true →
    LogsTrace x y p → output_of x.printer.form p ≢ []
some_printed x y p before after logged =
    puts_failed x.printer.has_failed y.printer.has_failed (output_of x.printer.form p) x.written y.written before after
    logged.prints.puts

-- If an RTP datagram at a media socket is handled at the socket's port, the gateway takes the step of this event.
pub media_steps : (setup : Setup) (socket port : ℕ) (source : Peer) (bytes : List ℕ) (w next : World) (taken : Taken) →
    1 ≤ socket → port ≡ slot_port (limits_of setup.config) (socket - 1) → TakesMedia w port source bytes next taken →
    Step w (event_at setup socket source bytes) [] next
media_steps setup zero port source bytes w next taken first is takes = absurd (omega arith)
media_steps setup (suc s) port source bytes w next taken first is takes =
    (taken, subst (λ (p : ℕ). TakesMedia w p source bytes next taken) (is ∙ same) takes, refl)
  where
    same : slot_port (limits_of setup.config) (suc s - 1) ≡ slot_port (limits_of setup.config) s
    same = omega arith
