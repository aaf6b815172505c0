-- An answer is sent right after its message is handled.
use Rattle.std.proofs.Common.{◌≡◌, ◌⊎◌, inl, inr, ℕ, zero, suc, ◌+◌, Bool, true, false, List, [], ◌∷◌, ◌++◌, length, map, All, Option, Some, None, refl, sym, ap, subst, ◌∙◌, codes}
use Rattle.std.proofs.lemmas.List.Elements.{All-head, All-tail}
use Rattle.std.specs.List.{list_any, range_with_len}
use Rattle.mg_journal.specs.declared.durability.Durability.{Durability}
use Rattle.mg_journal.specs.declared.durability.Durability.TheVariants.{Synced}
use Rattle.mg_journal.specs.Journal.{JournalState}
use Rattle.mg_words.specs.declared.peer.Peer.{Peer}
use Rattle.mg_engine.specs.declared.datagram.Datagram.{Datagram}
use Rattle.mg_core.specs.declared.event.Event.{Event}
use Rattle.mg_core.specs.declared.event.Event.TheVariants.{Control, Media, Tick}
use Rattle.mg_core.specs.ExceptReceived.{is_oversized, lasting}
use Rattle.mg_core.specs.Recording.{RecordingsAreRead}
use Rattle.mg_core.specs.Step.{Sent, Packet, answer_to}
use Rattle.mg_core.specs.World.{World, packets_of}
use Rattle.mg_ports.specs.declared.call.Call.{Call}
use Rattle.mg_ports.specs.declared.call.Call.TheVariants.{Receive, Send, BeginTick, Append, Renew}
use Rattle.mg_ports.specs.declared.receipt.Receipt.TheVariants.{Delivered, Nothing, Failed}
use Rattle.mg_ports.specs.Journaled.{JournalAfter}
use Rattle.mg_serve.specs.declared.command.Command.{Command}
use Rattle.mg_serve.specs.declared.command.Command.TheVariants as commands
use Rattle.mg_serve.specs.Journaled.{Progress, Lacks, Announces, Advances, IsJournaled, Journals}
use Rattle.mg_serve.specs.JournalLaws.{IsKept, IsMoment, NothingAnsweredIsForgotten, TellsEvents, is_renewal}
use Rattle.mg_serve.proofs.AppendLemmas.{IsAppend, only_appends}
use Rattle.mg_serve.specs.Session.{Each, Becomes, EndsTurn, HandlesDatagram, HandlesEvent, AppendsFor, MayRenew, Performs, ReceivesDatagram, Session, SocketTurn, event_at, sends_of}
use Rattle.mg_checkpoint.specs.Checkpoint.{checkpoint_text}
use Rattle.mg_serve.specs.Renewal.{renewal_text}
use Rattle.mg_serve.specs.Setup.{Setup, is_admitted}
use Rattle.mg_serve.specs.Trace.{TraceEntry, Called, Happened, Printed, Noted, Stale, calls_of, events_of_trace}
use Rattle.mg_serve.proofs.JournalSteps.{Holds, after_parts, journals_parts, lasts, quiet_both, start_holds, trace_holds, unrenewed_parts}
use Rattle.mg_serve.proofs.Printing.{calls_both}

-- Each answer in the trace goes to the peer whose message was handled directly before the answer.
abbrev AnswersFollow : Option Peer → List TraceEntry → Type 0
AnswersFollow due [] = Unit {0}
AnswersFollow due (Called (Send zero to text) ∷ trace) = (due ≡ Some to) × AnswersFollow None trace
AnswersFollow due (Happened (Control source bytes) ∷ trace) = AnswersFollow (Some source) trace
AnswersFollow due (_ ∷ trace) = AnswersFollow None trace

whoever : (due : Option Peer) (trace : List TraceEntry) → AnswersFollow None trace → AnswersFollow due trace
whoever due [] h = tt
whoever due (Called (Send zero to text) ∷ trace) h =
    let wrong : None ≡ Some to = h.0 in
    absurd cc
whoever due (Called (Send (suc s) to text) ∷ trace) h = h
whoever due (Called (Receive socket receipt) ∷ trace) h = h
whoever due (Called (BeginTick timing) ∷ trace) h = h
whoever due (Called (Renew renewed how result) ∷ trace) h = h
whoever due (Called (Append lines how result) ∷ trace) h = h
whoever due (Happened (Control source bytes) ∷ trace) h = h
whoever due (Happened (Media port source bytes) ∷ trace) h = h
whoever due (Happened Tick ∷ trace) h = h
whoever due (Printed text ∷ trace) h = h
whoever due (Noted text ∷ trace) h = h
whoever due (Stale source bytes ∷ trace) h = h

both : (due : Option Peer) (p q : List TraceEntry) → AnswersFollow due p → AnswersFollow None q → AnswersFollow due (p ++ q)
both due [] q h k = whoever due q k
both due (Called (Send zero to text) ∷ p) q h k = (h.0, both None p q h.1 k)
both due (Called (Send (suc s) to text) ∷ p) q h k = both None p q h k
both due (Called (Receive socket receipt) ∷ p) q h k = both None p q h k
both due (Called (BeginTick timing) ∷ p) q h k = both None p q h k
both due (Called (Renew renewed how result) ∷ p) q h k = both None p q h k
both due (Called (Append lines how result) ∷ p) q h k = both None p q h k
both due (Happened (Control source bytes) ∷ p) q h k = both (Some source) p q h k
both due (Happened (Media port source bytes) ∷ p) q h k = both None p q h k
both due (Happened Tick ∷ p) q h k = both None p q h k
both due (Printed text ∷ p) q h k = both None p q h k
both due (Noted text ∷ p) q h k = both None p q h k
both due (Stale source bytes ∷ p) q h k = both None p q h k

abbrev Follow : List TraceEntry → Type 0
Follow trace = AnswersFollow None trace

follow_as : (p q : List TraceEntry) → p ≡ q → Follow q → Follow p
follow_as p q is h = subst Follow (sym is) h

-- ## Parts of a session

each_follow : {A : Type 0} (R : A → World → List TraceEntry → World → Type 0)
    → ((x : A) (w next : World) (p : List TraceEntry) → R x w p next → Follow p) → (xs : List A) (w next : World)
    (p : List TraceEntry) → Each R xs w p next → Follow p
each_follow R one [] w next p h = follow_as p [] h.0 tt
each_follow R one (x ∷ xs) w next p h = follow_as p (h.0 ++ h.1) h.3
    (both None h.0 h.1 (one x w h.2 h.0 h.4) (each_follow R one xs h.2 next h.1 h.5))

packets_follow : (setup : Setup) (packets : List Datagram) → Follow (sends_of setup (map Packet packets))
packets_follow setup [] = tt
packets_follow setup (packet ∷ packets) = packets_follow setup packets

answer_follows : (setup : Setup) (source : Peer) (answer : Option (List ℕ)) →
    AnswersFollow (Some source) (sends_of setup (answer_to source answer))
answer_follows setup source None = tt
answer_follows setup source (Some text) = (refl, tt)

event_follows : (setup : Setup) (event : Event) (w next : World) (p : List TraceEntry) → HandlesEvent setup event w p next
    → Follow p
event_follows setup (Control source bytes) w next p (sent, (answer, answers, are), is) =
    follow_as p (Happened (Control source bytes) ∷ sends_of setup sent) is
    (subst (λ (l : List Sent). AnswersFollow (Some source) (sends_of setup l)) (sym are) (answer_follows setup source answer))
event_follows setup (Media port source bytes) w next p (sent, (taken, takes, are), is) =
    follow_as p (Happened (Media port source bytes) ∷ sends_of setup sent) is
    (subst (λ (l : List Sent). Follow (sends_of setup l)) (sym are) tt)
event_follows setup Tick w next p (sent, (are, after), is) =
    follow_as p (Happened Tick ∷ sends_of setup sent) is
    (subst (λ (l : List Sent). Follow (sends_of setup l)) (sym are) (packets_follow setup (packets_of w)))

appends_follow : (p : List TraceEntry) → All IsAppend p → Follow p
appends_follow [] h = tt
appends_follow (Called (Append lines how result) ∷ p) h = appends_follow p (All-tail IsAppend _ p h)
appends_follow (Called (Send socket to text) ∷ p) h = absurd (All-head IsAppend _ p h)
appends_follow (Called (Receive socket receipt) ∷ p) h = absurd (All-head IsAppend _ p h)
appends_follow (Called (BeginTick timing) ∷ p) h = absurd (All-head IsAppend _ p h)
appends_follow (Called (Renew renewed how result) ∷ p) h = absurd (All-head IsAppend _ p h)
appends_follow (Happened event ∷ p) h = absurd (All-head IsAppend _ p h)
appends_follow (Printed text ∷ p) h = absurd (All-head IsAppend _ p h)
appends_follow (Noted text ∷ p) h = absurd (All-head IsAppend _ p h)
appends_follow (Stale source bytes ∷ p) h = absurd (All-head IsAppend _ p h)

may_follow : (event : Event) (failed : Bool) (p : List TraceEntry) → AppendsFor event failed p → Follow p
may_follow event failed p h = appends_follow p (only_appends event failed p h)

datagram_follows : (setup : Setup) (socket : ℕ) (event : Event) (w next : World) (p : List TraceEntry)
    → HandlesDatagram setup socket event w p next → Follow p
datagram_follows setup zero event w next p (appends, others, is, inl (are, h)) =
    follow_as p (appends ++ others) is
    (both None appends others (may_follow event false appends are) (event_follows setup event w next others h))
datagram_follows setup zero event w next p (appends, others, is, inr (are, (last, same))) =
    follow_as p (appends ++ others) is
    (both None appends others (may_follow event true appends are)
    (follow_as others (Noted (codes "no journal for a control datagram") ∷ []) last tt))
datagram_follows setup (suc s) event w next p h = event_follows setup event w next p h

become_follows : (admitted : Bool) (setup : Setup) (socket : ℕ) (datagram : Peer × List ℕ) (w next : World) (p : List TraceEntry)
    → Becomes admitted setup socket datagram w p next → Follow p
become_follows true setup socket datagram w next p (inl h) =
    datagram_follows setup socket (event_at setup socket datagram.0 datagram.1) w next p h
become_follows true setup socket datagram w next p (inr (control, inl (is, same))) =
    follow_as p (Noted (codes "no memory for a control datagram") ∷ []) is tt
become_follows true setup socket datagram w next p (inr (control, inr (is, same))) =
    follow_as p (Stale datagram.0 datagram.1 ∷ []) is tt
become_follows false setup socket datagram w next p h = follow_as p [] h.0 tt

comes_follow : (setup : Setup) (socket : ℕ) (datagram : Peer × List ℕ) (w next : World) (p : List TraceEntry)
    → ReceivesDatagram setup socket datagram w p next → Follow p
comes_follow setup socket datagram w next p (others, fits, is, h) =
    follow_as p (Called (Receive socket (Delivered datagram.0 datagram.1)) ∷ others) is
    (become_follows (is_admitted setup w socket datagram.0) setup socket datagram w next others h)

ends_follow : (socket n : ℕ) (p : List TraceEntry) → EndsTurn socket n p → Follow p
ends_follow socket n p (inl h) = follow_as p [] h.1 tt
ends_follow socket n p (inr (few, inl is)) = follow_as p (Called (Receive socket Nothing) ∷ []) is tt
ends_follow socket n p (inr (few, inr is)) = follow_as p (Called (Receive socket Failed) ∷ []) is tt

turn_follows : (setup : Setup) (socket : ℕ) (w next : World) (p : List TraceEntry) → SocketTurn setup socket w p next → Follow p
turn_follows setup socket w next p h = follow_as p (h.received ++ h.last) h.parts
    (both None h.received h.last
    (each_follow (ReceivesDatagram setup socket) (comes_follow setup socket) h.datagrams w next h.received h.arrivals)
    (ends_follow socket (length h.datagrams) h.last h.ends))

renewal_follows : (setup : Setup) (w : World) (p : List TraceEntry) → MayRenew setup w p → Follow p
renewal_follows setup w p (inl none) = follow_as p [] none tt
renewal_follows setup w p (inr (appends, failed, are, reached, how, result, is, fits, restorable)) =
    let renew = Called (Renew (renewal_text setup.head (checkpoint_text w) reached) how result) in
    follow_as p (appends ++ renew ∷ []) is (both None appends (renew ∷ []) (may_follow Tick failed appends are) tt)

does_follow : (setup : Setup) (command : Command) (w next : World) (p : List TraceEntry) → Performs setup command w p next
    → Follow p
does_follow setup commands.Poll w next p h =
    each_follow (SocketTurn setup) (turn_follows setup) (range_with_len 0 (setup.config.slots + 1)) w next p h
does_follow setup (commands.Tick timing) w next p (happening, appends, renewal, is, happens, failed, may, renews) =
    follow_as p (Called (BeginTick timing) ∷ (happening ++ (appends ++ renewal))) is
    (both None happening (appends ++ renewal) (event_follows setup Tick w next happening happens)
    (both None appends renewal (may_follow Tick failed appends may) (renewal_follows setup next renewal renews)))
does_follow setup commands.Stats w next p (text, is, same) = follow_as p (Printed text ∷ []) is tt
does_follow setup commands.Quit w next p h = follow_as p [] h.0 tt
does_follow setup commands.Unknown w next p h = follow_as p (Printed (codes "unknown command") ∷ []) h.0 tt

session_follows : (setup : Setup) (list : List Command) (w next : World) (p : List TraceEntry) → Session setup list w p next
    → Follow p
session_follows setup list w next p h = each_follow (Performs setup) (does_follow setup) list w next p h

-- ## The message of an answer

abbrev IsAnswer : Option Peer → List TraceEntry → Peer → Type 0
IsAnswer due front to =
    ((front ≡ []) × (due ≡ Some to))
    ⊎ ((before : List TraceEntry) × (bytes : List ℕ) × (front ≡ before ++ Happened (Control to bytes) ∷ []))

later : (due : Option Peer) (one : TraceEntry) (front : List TraceEntry) (to : Peer) → IsAnswer None front to
    → IsAnswer due (one ∷ front) to
later due one front to (inl (none, due_none)) =
    let wrong : None ≡ Some to = due_none in
    absurd cc
later due one front to (inr (before, bytes, is)) =
    inr (one ∷ before, bytes, ap (λ (l : List TraceEntry). one ∷ l) is)

handled : (due : Option Peer) (source : Peer) (bytes : List ℕ) (front : List TraceEntry) (to : Peer)
    → IsAnswer (Some source) front to → IsAnswer due (Happened (Control source bytes) ∷ front) to
handled due source bytes front to (inl (none, same)) =
    let is : source ≡ to = cc in
    inr (
      [],
      bytes,
      ap (λ (l : List TraceEntry). Happened (Control source bytes) ∷ l) none
          ∙ ap (λ (p : Peer). Happened (Control p bytes) ∷ []) is,
    )
handled due source bytes front to (inr (before, more, is)) =
    inr (Happened (Control source bytes) ∷ before, more, ap (λ (l : List TraceEntry). Happened (Control source bytes) ∷ l) is)

answer_at : (due : Option Peer) (front : List TraceEntry) (to : Peer) (text : List ℕ) (rest : List TraceEntry)
    → AnswersFollow due (front ++ Called (Send 0 to text) ∷ rest) → IsAnswer due front to
answer_at due [] to text rest h = inl (refl, h.0)
answer_at due (Called (Send zero other more) ∷ front) to text rest h = later due _ front to (answer_at None front to text rest h.1)
answer_at due (Called (Send (suc s) other more) ∷ front) to text rest h = later due _ front to (answer_at None front to text rest h)
answer_at due (Called (Receive socket receipt) ∷ front) to text rest h = later due _ front to (answer_at None front to text rest h)
answer_at due (Called (BeginTick timing) ∷ front) to text rest h = later due _ front to (answer_at None front to text rest h)
answer_at due (Called (Renew renewed how result) ∷ front) to text rest h = later due _ front to (answer_at None front to text rest h)
answer_at due (Called (Append lines how result) ∷ front) to text rest h = later due _ front to (answer_at None front to text rest h)
answer_at due (Happened (Control source bytes) ∷ front) to text rest h =
    handled due source bytes front to (answer_at (Some source) front to text rest h)
answer_at due (Happened (Media port source bytes) ∷ front) to text rest h = later due _ front to (answer_at None front to text rest h)
answer_at due (Happened Tick ∷ front) to text rest h = later due _ front to (answer_at None front to text rest h)
answer_at due (Printed more ∷ front) to text rest h = later due _ front to (answer_at None front to text rest h)
answer_at due (Noted more ∷ front) to text rest h = later due _ front to (answer_at None front to text rest h)
answer_at due (Stale source bytes ∷ front) to text rest h = later due _ front to (answer_at None front to text rest h)

-- ## Nothing answered is forgotten

announced : (durability : Durability) (preface : List ℕ) (told happened : List Event) (state next : Progress) (to : Peer) (bytes : List ℕ)
    (journal : JournalState) → Holds durability preface told happened state journal
    → Advances durability state (Happened (Control to bytes)) next → is_oversized (Control to bytes) ≡ false
    → TellsEvents preface journal (told ++ (happened ++ Control to bytes ∷ [])) × (durability ≡ Synced → journal.synced ≡ journal.text)
announced durability preface told happened (Lacks n) next to bytes journal holds (large, at) short =
    let wrong : true ≡ false = sym large ∙ short in
    absurd cc
announced durability preface told happened (Announces source other) next to bytes journal (tells, works, synced, fits) (is, at) short =
    let same : Control to bytes ≡ Control source other = cc in (
      subst (λ (e : Event). TellsEvents preface journal (told ++ (happened ++ e ∷ []))) (sym same) tells,
      synced,
    )

-- If a session has a journal, the session's trace advances the progress of this journal.
pub journals_of : (setup : Setup) (durability : Durability) (trace : List TraceEntry) (lacking : ℕ)
    → setup.journal ≡ Some durability → IsJournaled setup.journal 0 trace lacking
    → Journals durability (Lacks 0) trace (Lacks lacking)
journals_of setup durability trace lacking has js =
    subst (λ (d : Option Durability). IsJournaled d 0 trace lacking) has js

-- After a message that isn't oversized was handled, the journal contains all lasting events so far.
pub tells_at : RecordingsAreRead → (durability : Durability) (preface : List ℕ) (told : List Event) (before : List TraceEntry)
    (to : Peer) (bytes : List ℕ) (progress : Progress) (start journal : JournalState) → TellsEvents preface start told
    → Journals durability (Lacks 0) (before ++ Happened (Control to bytes) ∷ []) progress
    → list_any is_renewal (calls_of (before ++ Happened (Control to bytes) ∷ [])) ≡ false
    → JournalAfter (calls_of (before ++ Happened (Control to bytes) ∷ [])) start journal
    → is_oversized (Control to bytes) ≡ false
    → TellsEvents preface journal (told ++ lasting (events_of_trace (before ++ Happened (Control to bytes) ∷ [])))
    × (durability ≡ Synced → journal.synced ≡ journal.text)
tells_at read durability preface told before to bytes progress start journal tells js stays after short =
    let message = Happened (Control to bytes) in
    let (state, first, (next, step, last)) = journals_parts durability (Lacks 0) progress before (message ∷ []) js in
    let (mid, past, same) =
    after_parts (calls_of before) [] start journal
    (subst (λ (l : List Call). JournalAfter l start journal) (calls_both before (message ∷ [])) after) in
    let holds =
    trace_holds read durability preface told [] before (Lacks 0) state start mid (start_holds durability preface told start tells) first
    (unrenewed_parts before (message ∷ []) stays).0 past
    in
    let here = announced durability preface told (lasting (events_of_trace before)) state next to bytes mid holds step short in
    let are : lasting (events_of_trace (before ++ message ∷ [])) ≡ lasting (events_of_trace before) ++ Control to bytes ∷ [] =
    quiet_both before (message ∷ []) ∙ ap (λ (l : List Event). lasting (events_of_trace before) ++ l) (lasts to bytes [] short) in (
      subst (λ (j : JournalState). TellsEvents preface j (told ++ lasting (events_of_trace (before ++ message ∷ [])))) (sym same)
          (subst (λ (l : List Event). TellsEvents preface mid (told ++ l)) (sym are) here.0),
      λ sync. subst (λ (j : JournalState). j.synced ≡ j.text) (sym same) (here.1 sync),
    )

kept : RecordingsAreRead → (durability : Durability) (preface : List ℕ) (told : List Event) (front before : List TraceEntry)
    (to : Peer) (bytes : List ℕ) (progress : Progress) (start journal : JournalState) → TellsEvents preface start told
    → front ≡ before ++ Happened (Control to bytes) ∷ [] → Journals durability (Lacks 0) front progress
    → list_any is_renewal (calls_of front) ≡ false → JournalAfter (calls_of front) start journal
    → IsKept durability preface told front to journal
kept read durability preface told front before to bytes progress start journal tells is js stays after = record {
  before = before;
  bytes = bytes;
  answers = is;
  tells = λ short. subst (λ (l : List TraceEntry). TellsEvents preface journal (told ++ lasting (events_of_trace l))) (sym is)
      (both_at short).0;
  synced = λ short. (both_at short).1;
}
  where
    both_at : is_oversized (Control to bytes) ≡ false
        → TellsEvents preface journal (told ++ lasting (events_of_trace (before ++ Happened (Control to bytes) ∷ [])))
        × (durability ≡ Synced → journal.synced ≡ journal.text)
    both_at short =
        tells_at read durability preface told before to bytes progress start journal tells
        (subst (λ (l : List TraceEntry). Journals durability (Lacks 0) l progress) is js)
        (subst (λ (l : List TraceEntry). list_any is_renewal (calls_of l) ≡ false) is stays)
        (subst (λ (l : List TraceEntry). JournalAfter (calls_of l) start journal) is after) short

forgotten : RecordingsAreRead → (setup : Setup) (durability : Durability) (preface : List ℕ) (w : World) (told : List Event)
    (front rest : List TraceEntry) (journal : JournalState) (to : Peer)
    → IsMoment setup durability preface w told front rest journal → IsAnswer None front to → IsKept durability preface told front to journal
forgotten read setup durability preface w told front rest journal to moment (inl (none, wrong)) =
    let never : None ≡ Some to = wrong in
    absurd cc
forgotten read setup durability preface w told front rest journal to moment (inr (before, bytes, is)) =
    let (progress, js, others) =
    journals_parts durability (Lacks 0) (Lacks moment.lacking) front rest
    (journals_of setup durability (front ++ rest) moment.lacking moment.has moment.lacks) in
    kept read durability preface told front before to bytes progress moment.start journal moment.tells is js moment.unrenewed moment.after

pub nothing_is_forgotten : RecordingsAreRead → NothingAnsweredIsForgotten
nothing_is_forgotten read setup durability preface w told front rest journal to text moment =
    forgotten read setup durability preface w told front (Called (Send 0 to text) ∷ rest) journal to moment
    (answer_at None front to text rest
    (session_follows setup moment.commands w moment.last (front ++ Called (Send 0 to text) ∷ rest) moment.session))
