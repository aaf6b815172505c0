-- The events of a session form a run of the gateway.
use Rattle.std.proofs.Common.{◌≡◌, ℕ, ◌+◌, inl, inr, Bool, true, false, List, [], ◌∷◌, ◌++◌, length, map, zero, suc, All, refl, sym, ap, subst, ◌∙◌, append_assoc, codes}
use Rattle.std.proofs.lemmas.List.{append-nil, map-append}
use Rattle.std.proofs.lemmas.List.Elements.{All-head, All-tail, filter-append}
use Rattle.std.specs.List.{filter, range_with_len}
use Rattle.mg_checkpoint.specs.Checkpoint.{checkpoint_text}
use Rattle.mg_serve.specs.Renewal.{renewal_text}
use Rattle.mg_serve.specs.Setup.{Setup, is_admitted}
use Rattle.mg_words.specs.declared.peer.Peer.{Peer}
use Rattle.mg_core.specs.declared.event.Event.{Event}
use Rattle.mg_core.specs.declared.event.Event.TheVariants as events
use Rattle.mg_core.specs.World.{World}
use Rattle.mg_core.specs.Step.{Sent, Reply, Packet, Run}
use Rattle.mg_ports.specs.declared.call.Call.{Call}
use Rattle.mg_ports.specs.declared.call.Call.TheVariants.{Receive, Send, BeginTick, Append, Renew}
use Rattle.mg_ports.specs.declared.receipt.Receipt.TheVariants.{Delivered, Nothing, Failed}
use Rattle.mg_serve.specs.declared.command.Command.{Command}
use Rattle.mg_serve.specs.declared.command.Command.TheVariants.{Poll, Tick, Stats, Quit, Unknown}
use Rattle.mg_serve.specs.Theorems.{SendsAreARun, is_send}
use Rattle.mg_serve.proofs.AppendLemmas.{IsAppend, only_appends}
use Rattle.mg_serve.specs.Session.{Each, Becomes, ReceivesDatagram, Performs, EndsTurn, HandlesDatagram, HandlesEvent, AppendsFor, MayRenew, Session, SocketTurn, event_at, send_of, sends_of}
use Rattle.mg_serve.specs.Trace.{TraceEntry, Called, Happened, Printed, Noted, Stale, calls_of, events_of_trace}
use Rattle.mg_serve.proofs.Printing.{calls_both}

run_both : (w mid next : World) (es fs : List Event) (s t : List Sent) → Run w es s mid → Run mid fs t next →
    Run w (es ++ fs) (s ++ t) next
run_both w mid next [] fs s t h k = subst (λ (v : World). Run v fs (s ++ t) next) h.1
    (subst (λ (l : List Sent). Run mid fs l next) (ap (λ (l : List Sent). l ++ t) (sym h.0)) k)
run_both w mid next (e ∷ es) fs s t h k = (
  h.0,
  h.1 ++ t,
  h.2,
  h.3,
  run_both h.2 mid next es fs h.1 t h.4 k,
  ap (λ (l : List Sent). l ++ t) h.5 ∙ append_assoc h.0 h.1 t,
)

pub events_both : (p q : List TraceEntry) → events_of_trace (p ++ q) ≡ events_of_trace p ++ events_of_trace q
events_both [] q = refl
events_both (Called call ∷ p) q = events_both p q
events_both (Happened event ∷ p) q = ap (λ (l : List Event). event ∷ l) (events_both p q)
events_both (Printed text ∷ p) q = events_both p q
events_both (Noted text ∷ p) q = events_both p q
events_both (Stale source bytes ∷ p) q = events_both p q

-- ## Parts of a session

ran_both : (setup : Setup) (w mid next : World) (p q : List TraceEntry) → SendsAreARun setup w p mid →
    SendsAreARun setup mid q next → SendsAreARun setup w (p ++ q) next
ran_both setup w mid next p q h k = record {
  sent = h.sent ++ k.sent;
  run = subst (λ (l : List Event). Run w l (h.sent ++ k.sent) next) (sym (events_both p q))
      (run_both w mid next (events_of_trace p) (events_of_trace q) h.sent k.sent h.run k.run);
  sends = ap (filter is_send) (calls_both p q) ∙ filter-append is_send (calls_of p) (calls_of q) ∙
      ap (λ (l : List Call). l ++ filter is_send (calls_of q)) h.sends ∙
      ap (λ (l : List Call). map (send_of setup) h.sent ++ l) k.sends ∙
      sym (map-append (send_of setup) h.sent k.sent);
}

no_run : (setup : Setup) (w next : World) (p : List TraceEntry) → events_of_trace p ≡ [] → filter is_send (calls_of p) ≡ [] →
    next ≡ w → SendsAreARun setup w p next
no_run setup w next p none sends same = record {
  sent = [];
  run = subst (λ (l : List Event). Run w l [] next) (sym none) (refl, same);
  sends = sends;
}

ran_as : (setup : Setup) (w next : World) (p q : List TraceEntry) → p ≡ q → SendsAreARun setup w q next →
    SendsAreARun setup w p next
ran_as setup w next p q is h = subst (λ (l : List TraceEntry). SendsAreARun setup w l next) (sym is) h

each_ran : {A : Type 0} (setup : Setup) (R : A → World → List TraceEntry → World → Type 0) →
    ((x : A) (w next : World) (p : List TraceEntry) → R x w p next → SendsAreARun setup w p next) →
    (xs : List A) (w next : World) (p : List TraceEntry) → Each R xs w p next → SendsAreARun setup w p next
each_ran setup R step [] w next p h = ran_as setup w next p [] h.0 (no_run setup w next [] refl refl h.1)
each_ran setup R step (x ∷ xs) w next p h = ran_as setup w next p (h.0 ++ h.1) h.3
    (ran_both setup w h.2 next h.0 h.1 (step x w h.2 h.0 h.4) (each_ran setup R step xs h.2 next h.1 h.5))

-- ## The sends of an event

no_events : (setup : Setup) (sent : List Sent) → events_of_trace (sends_of setup sent) ≡ []
no_events setup [] = refl
no_events setup (datagram ∷ sent) = no_events setup sent

all_sends : (setup : Setup) (sent : List Sent) →
    filter is_send (calls_of (sends_of setup sent)) ≡ map (send_of setup) sent
all_sends setup [] = refl
all_sends setup (Reply to text ∷ sent) =
    ap (λ (l : List Call). send_of setup (Reply to text) ∷ l) (all_sends setup sent)
all_sends setup (Packet packet ∷ sent) =
    ap (λ (l : List Call). send_of setup (Packet packet) ∷ l) (all_sends setup sent)

event_ran : (setup : Setup) (event : Event) (w next : World) (p : List TraceEntry) → HandlesEvent setup event w p next →
    SendsAreARun setup w p next
event_ran setup event w next p (sent, step, is) = ran_as setup w next p (Happened event ∷ sends_of setup sent) is
    (record {
      sent = sent;
      run = subst (λ (l : List Event). Run w (event ∷ l) sent next) (sym (no_events setup sent))
          (sent, [], next, step, (refl, refl), sym (append-nil sent));
      sends = all_sends setup sent;
    })

-- ## A poll

appends_ran : (setup : Setup) (w : World) (p : List TraceEntry) → All IsAppend p → SendsAreARun setup w p w
appends_ran setup w [] all = no_run setup w w [] refl refl refl
appends_ran setup w (Called (Append lines durability result) ∷ p) all =
    let append = Called (Append lines durability result) in
    ran_both setup w w w (append ∷ []) p (no_run setup w w (append ∷ []) refl refl refl)
    (appends_ran setup w p (All-tail IsAppend append p all))
appends_ran setup w (Called (Receive socket receipt) ∷ p) all =
    absurd (All-head IsAppend (Called (Receive socket receipt)) p all)
appends_ran setup w (Called (Send socket to bytes) ∷ p) all =
    absurd (All-head IsAppend (Called (Send socket to bytes)) p all)
appends_ran setup w (Called (BeginTick timing) ∷ p) all =
    absurd (All-head IsAppend (Called (BeginTick timing)) p all)
appends_ran setup w (Called (Renew text durability result) ∷ p) all =
    absurd (All-head IsAppend (Called (Renew text durability result)) p all)
appends_ran setup w (Happened event ∷ p) all = absurd (All-head IsAppend (Happened event) p all)
appends_ran setup w (Printed text ∷ p) all = absurd (All-head IsAppend (Printed text) p all)
appends_ran setup w (Noted text ∷ p) all = absurd (All-head IsAppend (Noted text) p all)
appends_ran setup w (Stale source bytes ∷ p) all = absurd (All-head IsAppend (Stale source bytes) p all)

may_run : (setup : Setup) (w : World) (event : Event) (failed : Bool) (p : List TraceEntry) → AppendsFor event failed p →
    SendsAreARun setup w p w
may_run setup w event failed p h = appends_ran setup w p (only_appends event failed p h)

datagram_ran : (setup : Setup) (socket : ℕ) (event : Event) (w next : World) (p : List TraceEntry) →
    HandlesDatagram setup socket event w p next → SendsAreARun setup w p next
datagram_ran setup zero event w next p (appends, others, is, inl (are, h)) =
    ran_as setup w next p (appends ++ others) is
    (ran_both setup w w next appends others (may_run setup w event false appends are)
    (event_ran setup event w next others h))
datagram_ran setup zero event w next p (appends, others, is, inr (are, (last, same))) =
    let refused = Noted (codes "no journal for a control datagram") ∷ [] in
    ran_as setup w next p (appends ++ others) is
    (ran_both setup w w next appends others (may_run setup w event true appends are)
    (ran_as setup w next others refused last (no_run setup w next refused refl refl same)))
datagram_ran setup (suc s) event w next p h = event_ran setup event w next p h

-- The effect of a datagram is a run of at most one event, whether or not its sender is admitted.
become_ran : (admitted : Bool) (setup : Setup) (socket : ℕ) (datagram : Peer × List ℕ) (w next : World) (p : List TraceEntry) →
    Becomes admitted setup socket datagram w p next → SendsAreARun setup w p next
become_ran true setup socket datagram w next p (inl h) =
    datagram_ran setup socket (event_at setup socket datagram.0 datagram.1) w next p h
become_ran true setup socket datagram w next p (inr (control, inl (is, same))) =
    let noted = Noted (codes "no memory for a control datagram") in
    ran_as setup w next p (noted ∷ []) is (no_run setup w next (noted ∷ []) refl refl same)
become_ran true setup socket datagram w next p (inr (control, inr (is, same))) =
    let stale = Stale datagram.0 datagram.1 in
    ran_as setup w next p (stale ∷ []) is (no_run setup w next (stale ∷ []) refl refl same)
become_ran false setup socket datagram w next p h = ran_as setup w next p [] h.0 (no_run setup w next [] refl refl h.1)

comes_ran : (setup : Setup) (socket : ℕ) (datagram : Peer × List ℕ) (w next : World) (p : List TraceEntry) →
    ReceivesDatagram setup socket datagram w p next → SendsAreARun setup w p next
comes_ran setup socket datagram w next p (others, fits, is, h) =
    let receive = Called (Receive socket (Delivered datagram.0 datagram.1)) in
    ran_as setup w next p (receive ∷ others) is
    (ran_both setup w w next (receive ∷ []) others (no_run setup w w (receive ∷ []) refl refl refl)
    (become_ran (is_admitted setup w socket datagram.0) setup socket datagram w next others h))

ends_ran : (setup : Setup) (socket n : ℕ) (w : World) (p : List TraceEntry) → EndsTurn socket n p → SendsAreARun setup w p w
ends_ran setup socket n w p (inl h) = ran_as setup w w p [] h.1 (no_run setup w w [] refl refl refl)
ends_ran setup socket n w p (inr (few, inl is)) =
    let receive = Called (Receive socket Nothing) in
    ran_as setup w w p (receive ∷ []) is (no_run setup w w (receive ∷ []) refl refl refl)
ends_ran setup socket n w p (inr (few, inr is)) =
    let receive = Called (Receive socket Failed) in
    ran_as setup w w p (receive ∷ []) is (no_run setup w w (receive ∷ []) refl refl refl)

turn_ran : (setup : Setup) (socket : ℕ) (w next : World) (p : List TraceEntry) → SocketTurn setup socket w p next →
    SendsAreARun setup w p next
turn_ran setup socket w next p h = ran_as setup w next p (h.received ++ h.last) h.parts
    (ran_both setup w next next h.received h.last
    (each_ran setup (ReceivesDatagram setup socket) (comes_ran setup socket) h.datagrams w next h.received h.arrivals)
    (ends_ran setup socket (length h.datagrams) next h.last h.ends))

-- ## Commands

renewal_run : (setup : Setup) (w : World) (p : List TraceEntry) → MayRenew setup w p → SendsAreARun setup w p w
renewal_run setup w p (inl none) = ran_as setup w w p [] none (no_run setup w w [] refl refl refl)
renewal_run setup w p (inr (appends, failed, are, reached, durability, result, is, fits, restorable)) =
    let renew = Called (Renew (renewal_text setup.head (checkpoint_text w) reached) durability result) in
    ran_as setup w w p (appends ++ renew ∷ []) is
    (ran_both setup w w w appends (renew ∷ []) (may_run setup w events.Tick failed appends are)
    (no_run setup w w (renew ∷ []) refl refl refl))

does_ran : (setup : Setup) (command : Command) (w next : World) (p : List TraceEntry) → Performs setup command w p next →
    SendsAreARun setup w p next
does_ran setup Poll w next p h =
    each_ran setup (SocketTurn setup) (turn_ran setup) (range_with_len 0 (setup.config.slots + 1)) w next p h
does_ran setup (Tick timing) w next p (happening, appends, renewal, is, h, failed, may, renews) =
    let begin = Called (BeginTick timing) in
    let end = appends ++ renewal in
    ran_as setup w next p (begin ∷ (happening ++ end)) is
    (ran_both setup w w next (begin ∷ []) (happening ++ end) (no_run setup w w (begin ∷ []) refl refl refl)
    (ran_both setup w next next happening end (event_ran setup events.Tick w next happening h)
    (ran_both setup next next next appends renewal (may_run setup next events.Tick failed appends may)
    (renewal_run setup next renewal renews))))
does_ran setup Stats w next p (text, is, same) =
    ran_as setup w next p (Printed text ∷ []) is (no_run setup w next (Printed text ∷ []) refl refl same)
does_ran setup Quit w next p h = ran_as setup w next p [] h.0 (no_run setup w next [] refl refl h.1)
does_ran setup Unknown w next p h =
    let printed = Printed (codes "unknown command") in
    ran_as setup w next p (printed ∷ []) h.0 (no_run setup w next (printed ∷ []) refl refl h.1)

pub session_run : (setup : Setup) (commands : List Command) (w next : World) (p : List TraceEntry) →
    Session setup commands w p next → SendsAreARun setup w p next
session_run setup commands w next p h = each_ran setup (Performs setup) (does_ran setup) commands w next p h
