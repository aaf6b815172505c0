-- The part of a session since its last successful renewal.
use Rattle.std.proofs.Common.{◌≡◌, ◌⊎◌, inl, inr, ℕ, zero, suc, ◌+◌, ◌<◌, ◌^◌, Bool, true, false, ◌||◌, List, [], ◌∷◌, ◌++◌, length, All, Ok, Err, refl, sym, ap, subst, ◌∙◌, append_assoc, append-nil, codes}
use Rattle.std.specs.List.{list_any, range_with_len}
use Rattle.std.proofs.lemmas.List.Elements.{All-head, All-tail}
use Rattle.std.proofs.lemmas.List.Folds.{list_any-append}
use Rattle.mg_journal.specs.declared.durability.Durability.{Durability}
use Rattle.mg_words.specs.declared.peer.Peer.{Peer}
use Rattle.mg_core.specs.declared.event.Event.{Event}
use Rattle.mg_core.specs.declared.event.Event.TheVariants.{Tick}
use Rattle.mg_core.specs.Step.{Sent, Packet, Reply}
use Rattle.mg_core.specs.World.{World}
use Rattle.mg_checkpoint.specs.Checkpoint.{checkpoint_text}
use Rattle.mg_ports.specs.declared.call.Call.TheVariants.{Receive, Send, BeginTick, Append, Renew}
use Rattle.mg_ports.specs.declared.receipt.Receipt.TheVariants.{Delivered, Nothing, Failed}
use Rattle.mg_serve.specs.declared.command.Command.{Command}
use Rattle.mg_serve.specs.declared.command.Command.TheVariants as commands
use Rattle.mg_serve.specs.JournalLaws.{is_renewal}
use Rattle.mg_serve.specs.Renewal.{renewal_text}
use Rattle.mg_serve.proofs.AppendLemmas.{IsAppend, only_appends}
use Rattle.mg_serve.specs.Session.{Each, Becomes, EndsTurn, HandlesDatagram, HandlesEvent, AppendsFor, MayRenew, Performs, ReceivesDatagram, SocketTurn, event_at, send_of, sends_of}
use Rattle.mg_serve.specs.Setup.{Setup, is_admitted}
use Rattle.mg_serve.specs.Trace.{TraceEntry, Called, Happened, Printed, Noted, Stale, calls_of}
use Rattle.mg_serve.proofs.Printing.{calls_both}

-- ## Parts without a successful renewal

-- The journal is not renewed successfully.
abbrev pub Stays : List TraceEntry → Type 0
Stays p = list_any is_renewal (calls_of p) ≡ false

pub stay_as : (p q : List TraceEntry) → p ≡ q → Stays q → Stays p
stay_as p q is h = subst Stays (sym is) h

pub stay_both : (p q : List TraceEntry) → Stays p → Stays q → Stays (p ++ q)
stay_both p q h k =
    ap (list_any is_renewal) (calls_both p q) ∙ (list_any-append is_renewal (calls_of p) (calls_of q)
    ∙ (ap (λ (b : Bool). b || list_any is_renewal (calls_of q)) h ∙ k))

each_stays : {A : Type 0} (R : A → World → List TraceEntry → World → Type 0)
    → ((x : A) (w next : World) (p : List TraceEntry) → R x w p next → Stays p) → (xs : List A) (w next : World)
    (p : List TraceEntry) → Each R xs w p next → Stays p
each_stays R one [] w next p h = stay_as p [] h.0 refl
each_stays R one (x ∷ xs) w next p h = stay_as p (h.0 ++ h.1) h.3
    (stay_both h.0 h.1 (one x w h.2 h.0 h.4) (each_stays R one xs h.2 next h.1 h.5))

send_stays : (setup : Setup) (one : Sent) → Stays (Called (send_of setup one) ∷ [])
send_stays setup (Reply to text) = refl
send_stays setup (Packet packet) = refl

sends_stay : (setup : Setup) (sent : List Sent) → Stays (sends_of setup sent)
sends_stay setup [] = refl
sends_stay setup (one ∷ sent) =
    stay_both (Called (send_of setup one) ∷ []) (sends_of setup sent) (send_stays setup one) (sends_stay setup sent)

event_stays : (setup : Setup) (event : Event) (w next : World) (p : List TraceEntry) → HandlesEvent setup event w p next → Stays p
event_stays setup event w next p (sent, step, is) = stay_as p (Happened event ∷ sends_of setup sent) is (sends_stay setup sent)

appends_stay : (p : List TraceEntry) → All IsAppend p → Stays p
appends_stay [] h = refl
appends_stay (Called (Append lines how result) ∷ p) h = appends_stay p (All-tail IsAppend _ p h)
appends_stay (Called (Send socket to text) ∷ p) h = absurd (All-head IsAppend _ p h)
appends_stay (Called (Receive socket receipt) ∷ p) h = absurd (All-head IsAppend _ p h)
appends_stay (Called (BeginTick timing) ∷ p) h = absurd (All-head IsAppend _ p h)
appends_stay (Called (Renew text how result) ∷ p) h = absurd (All-head IsAppend _ p h)
appends_stay (Happened event ∷ p) h = absurd (All-head IsAppend _ p h)
appends_stay (Printed text ∷ p) h = absurd (All-head IsAppend _ p h)
appends_stay (Noted text ∷ p) h = absurd (All-head IsAppend _ p h)
appends_stay (Stale source bytes ∷ p) h = absurd (All-head IsAppend _ p h)

may_stay : (event : Event) (failed : Bool) (p : List TraceEntry) → AppendsFor event failed p → Stays p
may_stay event failed p h = appends_stay p (only_appends event failed p h)

datagram_stays : (setup : Setup) (socket : ℕ) (event : Event) (w next : World) (p : List TraceEntry)
    → HandlesDatagram setup socket event w p next → Stays p
datagram_stays setup zero event w next p (appends, others, is, inl (are, h)) =
    stay_as p (appends ++ others) is
    (stay_both appends others (may_stay event false appends are) (event_stays setup event w next others h))
datagram_stays setup zero event w next p (appends, others, is, inr (are, (last, same))) =
    stay_as p (appends ++ others) is
    (stay_both appends others (may_stay event true appends are)
    (stay_as others (Noted (codes "no journal for a control datagram") ∷ []) last refl))
datagram_stays setup (suc s) event w next p h = event_stays setup event w next p h

become_stays : (admitted : Bool) (setup : Setup) (socket : ℕ) (datagram : Peer × List ℕ) (w next : World) (p : List TraceEntry)
    → Becomes admitted setup socket datagram w p next → Stays p
become_stays true setup socket datagram w next p (inl h) =
    datagram_stays setup socket (event_at setup socket datagram.0 datagram.1) w next p h
become_stays true setup socket datagram w next p (inr (control, inl (is, same))) =
    stay_as p (Noted (codes "no memory for a control datagram") ∷ []) is refl
become_stays true setup socket datagram w next p (inr (control, inr (is, same))) =
    stay_as p (Stale datagram.0 datagram.1 ∷ []) is refl
become_stays false setup socket datagram w next p h = stay_as p [] h.0 refl

comes_stays : (setup : Setup) (socket : ℕ) (datagram : Peer × List ℕ) (w next : World) (p : List TraceEntry)
    → ReceivesDatagram setup socket datagram w p next → Stays p
comes_stays setup socket datagram w next p (others, fits, is, h) =
    stay_as p (Called (Receive socket (Delivered datagram.0 datagram.1)) ∷ others) is
    (become_stays (is_admitted setup w socket datagram.0) setup socket datagram w next others h)

ends_stay : (socket n : ℕ) (p : List TraceEntry) → EndsTurn socket n p → Stays p
ends_stay socket n p (inl h) = stay_as p [] h.1 refl
ends_stay socket n p (inr (few, inl is)) = stay_as p (Called (Receive socket Nothing) ∷ []) is refl
ends_stay socket n p (inr (few, inr is)) = stay_as p (Called (Receive socket Failed) ∷ []) is refl

turn_stays : (setup : Setup) (socket : ℕ) (w next : World) (p : List TraceEntry) → SocketTurn setup socket w p next → Stays p
turn_stays setup socket w next p h = stay_as p (h.received ++ h.last) h.parts
    (stay_both h.received h.last
    (each_stays (ReceivesDatagram setup socket) (comes_stays setup socket) h.datagrams w next h.received h.arrivals)
    (ends_stay socket (length h.datagrams) h.last h.ends))

-- ## A command

-- A successful renewal with the checkpoint of this world.
pub record IsRenewal (setup : Setup) (w : World) (entry : TraceEntry) : Type 0 where
  pub durability : Durability
  pub reached : ℕ
  pub fits : reached < 2 ^ 32
  pub is : entry ≡ Called (Renew (renewal_text setup.head (checkpoint_text w) reached) durability (Ok tt))

-- The trace has no successful renewal, or it has one, which is its last entry.
abbrev pub RenewsLast : Setup → World → List TraceEntry → Type 0
RenewsLast setup next p =
    Stays p ⊎ ((front : List TraceEntry) × (entry : TraceEntry) × (p ≡ front ++ entry ∷ []) × Stays front
    × IsRenewal setup next entry)

renews_last : (setup : Setup) (next : World) (p before renewal : List TraceEntry) → p ≡ before ++ renewal → Stays before
    → MayRenew setup next renewal → RenewsLast setup next p
renews_last setup next p before renewal is stays (inl none) =
    inl (stay_as p before (is ∙ (ap (λ (l : List TraceEntry). before ++ l) none ∙ append-nil before)) stays)
renews_last setup next p before renewal is stays (inr (appends, failed, may, reached, durability, Ok done, are, fits, restorable)) =
    let entry = Called (Renew (renewal_text setup.head (checkpoint_text next) reached) durability (Ok tt)) in
    inr (
      before ++ appends,
      entry,
      is ∙ (ap (λ (l : List TraceEntry). before ++ l) are ∙ sym (append_assoc before appends (entry ∷ []))),
      stay_both before appends stays (may_stay Tick failed appends may),
      record { durability = durability; reached = reached; fits = fits; is = refl },
    )
renews_last setup next p before renewal is stays (inr (appends, failed, may, reached, durability, Err fault, are, fits, restorable)) =
    let entry = Called (Renew (renewal_text setup.head (checkpoint_text next) reached) durability (Err fault)) in
    inl (stay_as p (before ++ renewal) is (stay_both before renewal stays
    (stay_as renewal (appends ++ entry ∷ []) are
    (stay_both appends (entry ∷ []) (may_stay Tick failed appends may) refl))))

pub does_renew : (setup : Setup) (command : Command) (w next : World) (p : List TraceEntry) → Performs setup command w p next
    → RenewsLast setup next p
does_renew setup commands.Poll w next p h =
    inl (each_stays (SocketTurn setup) (turn_stays setup) (range_with_len 0 (setup.config.slots + 1)) w next p h)
does_renew setup (commands.Tick timing) w next p (happening, appends, renewal, is, happens, failed, may, renews) =
    let begin = Called (BeginTick timing) in
    renews_last setup next p (begin ∷ (happening ++ appends)) renewal
    (is ∙ ap (λ (l : List TraceEntry). begin ∷ l) (sym (append_assoc happening appends renewal)))
    (stay_both happening appends (event_stays setup Tick w next happening happens) (may_stay Tick failed appends may)) renews
does_renew setup commands.Stats w next p (text, is, same) = inl (stay_as p (Printed text ∷ []) is refl)
does_renew setup commands.Quit w next p h = inl (stay_as p [] h.0 refl)
does_renew setup commands.Unknown w next p h = inl (stay_as p (Printed (codes "unknown command") ∷ []) h.0 refl)
