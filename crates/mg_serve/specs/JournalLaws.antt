-- The events and states of a session that its journal preserves, whenever the gateway crashes.
--
-- A journal contains the events since a gateway's start, or since its last successful renewal. After a renewal, it
-- begins with a preface: the head and the checkpoint of the world at the renewal. A gateway that resumes begins with
-- that world, except for what was received.
use Rattle.std.specs.Prelude.{◌≡◌, ◌⊎◌, ℕ, ◌≤◌, Bool, true, false, List, [], ◌∷◌, ◌++◌, replicate, Ok}
use Rattle.std.specs.Prelude.{Some, IfSome}
use Rattle.std.specs.List.{list_any}
use Rattle.mg_journal.specs.declared.durability.Durability.{Durability}
use Rattle.mg_journal.specs.declared.durability.Durability.TheVariants.{Synced}
use Rattle.mg_journal.specs.Text.{IsWhole, whole_lines}
use Rattle.mg_journal.specs.Journal.{JournalState}
use Rattle.mg_words.specs.declared.peer.Peer.{Peer}
use Rattle.mg_engine.specs.Flow.{flow}
use Rattle.mg_core.specs.Base.{IsBase}
use Rattle.mg_core.specs.Counted.{is_mark, journal_lines}
use Rattle.mg_core.specs.declared.event.Event.{Event}
use Rattle.mg_core.specs.declared.event.Event.TheVariants as events
use Rattle.mg_core.specs.ExceptReceived.{AgreeExceptReceived, is_oversized, lasting}
use Rattle.mg_core.specs.Script.{events_of}
use Rattle.mg_core.specs.Step.{Sent, Step, Run}
use Rattle.mg_core.specs.World.{World, world_after_ticks}
use Rattle.mg_lines.specs.Lines.{lines_of}
use Rattle.mg_checkpoint.specs.Checkpoint.{checkpoint_text, without_speech}
use Rattle.mg_ports.specs.declared.call.Call.{Call}
use Rattle.mg_ports.specs.declared.call.Call.TheVariants.{Send, Renew}
use Rattle.mg_ports.specs.Journaled.{JournalAfter}
use Rattle.mg_serve.specs.declared.command.Command.{Command}
use Rattle.mg_serve.specs.Journaled.{Progress, Lacks, Announces, Journals, IsJournaled}
use Rattle.mg_serve.specs.Renewal.{renewal_text}
use Rattle.mg_serve.specs.Session.{Session}
use Rattle.mg_serve.specs.Setup.{Setup}
use Rattle.mg_serve.specs.Trace.{TraceEntry, Called, Happened, calls_of, events_of_trace}

-- The lines of this text are all complete, and are read as a script of these events.
abbrev pub IsScriptOf : List ℕ → List Event → Type 0
IsScriptOf text events = IsWhole text × (events_of (journal_lines true text) ≡ Some events)

-- What follows the preface of this text is read as a script of these events, and ticks are counted after it.
abbrev pub IsJournalOf : (preface text : List ℕ) → List Event → Type 0
IsJournalOf preface text events =
    (tail : List ℕ) × (text ≡ preface ++ tail) × IsScriptOf tail events
    × (list_any is_mark (lines_of true tail) ≡ true)

-- The text of the journal, if it is known, contains these events.
abbrev pub TellsEvents : (preface : List ℕ) → JournalState → List Event → Type 0
TellsEvents preface journal events = IfSome journal.text (λ text. IsJournalOf preface text events)

-- Whether a call renewed the journal.
abbrev pub is_renewal : Call → Bool
is_renewal (Renew text durability (Ok done)) = true
is_renewal _ = false

-- A moment of a session that starts in the world `w`. At the start, the journal had this preface and contained the
-- events `told`. The entries `front` have happened, and the entries `rest` follow. The journal was not renewed
-- successfully in `front`, and is in this state at the moment.
pub record IsMoment (setup : Setup) (durability : Durability) (preface : List ℕ) (w : World)
    (told : List Event) (front rest : List TraceEntry) (journal : JournalState) : Type 0 where
  pub commands : List Command
  pub last : World
  pub lacking : ℕ
  pub start : JournalState
  pub has : setup.journal ≡ Some durability
  pub session : Session setup commands w (front ++ rest) last
  pub lacks : IsJournaled setup.journal 0 (front ++ rest) lacking
  pub tells : TellsEvents preface start told
  pub unrenewed : list_any is_renewal (calls_of front) ≡ false
  pub after : JournalAfter (calls_of front) start journal

-- A successful renewal in `front`, after which the entries `since` happened. A run of the events before it ends in the
-- world `start`, whose checkpoint is in the journal.
pub record IsRenewed (setup : Setup) (w : World) (front : List TraceEntry) (start : World)
    (since : List TraceEntry) : Type 0 where
  pub earlier : List TraceEntry
  pub durability : Durability
  pub reached : ℕ
  pub parts : front ≡ earlier ++ Called (Renew
      (renewal_text setup.head (checkpoint_text start) reached) durability (Ok tt)) ∷ since
  pub sent : List Sent
  pub run : Run w (events_of_trace earlier) sent start

-- Each prefix of a session's trace ends at a moment. The moment counts from the last successful renewal in the prefix,
-- as if a session had started there in that world with the renewed journal, which contains no events yet. Without such
-- a renewal, it counts from the start. The first two premises say that there is a journal, and what it contained. The
-- others are fields of `Served`, the contract of a server's run. The rest of the trace leads from the journal at this
-- moment to the journal at the end of the run.
abbrev pub EachPartIsAMoment : Type 0
EachPartIsAMoment =
    (setup : Setup) (durability : Durability) (commands : List Command) (preface : List ℕ)
    (w last : World) (front rest : List TraceEntry) (told : List Event) (lacking : ℕ)
    (old new : JournalState)
    → setup.journal ≡ Some durability → TellsEvents preface old told
    → Session setup commands w (front ++ rest) last
    → IsJournaled setup.journal 0 (front ++ rest) lacking
    → JournalAfter (calls_of (front ++ rest)) old new
    → (journal : JournalState) × JournalAfter (calls_of rest) journal new
    × (IsMoment setup durability preface w told front rest journal
    ⊎ ((start : World) × (since : List TraceEntry) × IsRenewed setup w front start since
    × IsMoment setup durability (setup.head ++ checkpoint_text start) start [] since rest journal))

-- ## Answers

-- An answer is due to a peer whose message was the last event. Unless this message is oversized, the journal contains
-- all lasting events so far, and if messages are synced, all of the journal's text is on the disk.
pub record IsKept (durability : Durability) (preface : List ℕ) (told : List Event)
    (front : List TraceEntry) (to : Peer) (journal : JournalState) : Type 0 where
  pub before : List TraceEntry
  pub bytes : List ℕ
  pub answers : front ≡ before ++ Happened (events.Control to bytes) ∷ []
  pub tells : is_oversized (events.Control to bytes) ≡ false
      → TellsEvents preface journal (told ++ lasting (events_of_trace front))
  pub synced : is_oversized (events.Control to bytes) ≡ false
      → durability ≡ Synced → journal.synced ≡ journal.text

-- Nothing answered is forgotten: at each moment at which an answer is sent next, `IsKept` holds.
abbrev pub NothingAnsweredIsForgotten : Type 0
NothingAnsweredIsForgotten =
    (setup : Setup) (durability : Durability) (preface : List ℕ) (w : World) (told : List Event)
    (front rest : List TraceEntry) (journal : JournalState) (to : Peer) (text : List ℕ)
    → IsMoment setup durability preface w told front (Called (Send 0 to text) ∷ rest) journal
    → IsKept durability preface told front to journal

-- ## Crashes

-- The number of ticks that a journal lacks.
abbrev pub ticks_lacking : Progress → ℕ
ticks_lacking (Lacks ticks) = ticks
ticks_lacking (Announces source bytes) = 0

-- Everything that happened is kept, except for at most as many of the last ticks as the journal lacks. The journal may
-- end with a message that was not handled.
pub record LosesTicks (lacking : ℕ) (happened written : List Event) : Type 0 where
  pub kept : List Event
  pub ticks : ℕ
  pub few : ticks ≤ lacking
  pub lost : happened ≡ kept ++ replicate ticks events.Tick
  pub wrote : (written ≡ kept)
      ⊎ ((source : Peer) × (bytes : List ℕ) × (written ≡ kept ++ events.Control source bytes ∷ []))

-- The loss of `LosesTicks`, in terms of worlds. The gateway was in the world `now`. From the world `before`, the lost
-- ticks lead to a world that agrees with `now`, except for what was received. The gateway resumes in `before`, or in
-- the world after a message that was announced, but was neither handled nor answered.
pub record LosesSpeech (lacking : ℕ) (now resumed : World) : Type 0 where
  pub before : World
  pub ticks : ℕ
  pub few : ticks ≤ lacking
  pub agrees : AgreeExceptReceived now (world_after_ticks ticks before)
  pub resumes : (resumed ≡ before)
      ⊎ ((source : Peer) × (bytes : List ℕ) × (sent : List Sent)
      × Step before (events.Control source bytes) sent resumed)

-- A crash at a moment of a session, in the world `now`. The journal contains the events `told` from before the session,
-- and then the events `written`. These are the lasting events that happened, without lost ticks. A message that was not
-- handled may come last. A run of all events in the journal, from the world `base`, ends in the world in which a
-- gateway resumes.
pub record Survives (setup : Setup) (durability : Durability) (preface : List ℕ) (base w : World)
    (told : List Event) (front : List TraceEntry) (journal : JournalState) : Type 0 where
  pub now : World
  pub sent : List Sent
  pub run : Run w (events_of_trace front) sent now
  pub progress : Progress
  pub reached : Journals durability (Lacks 0) front progress
  pub written : List Event
  pub tells : TellsEvents preface journal (told ++ written)
  pub loses : LosesTicks (ticks_lacking progress) (lasting (events_of_trace front)) written
  pub resumes : (resumed : World) (others : List Sent)
      → Run base (told ++ written) others resumed
      → LosesSpeech (ticks_lacking progress) now resumed

-- A crash loses received RTP (speech and its counts) and a few ticks, and nothing else. From the world `base`, the
-- events that the journal contained at the start of the session lead to some world. The session may start in any world
-- that agrees with this world, except for what was received. A crash during an append has the same effect as a broken
-- append: some of the lines are in the journal.
abbrev pub CrashesLoseSpeechOnly : Type 0
CrashesLoseSpeechOnly =
    (setup : Setup) (durability : Durability) (preface : List ℕ) (base w v : World)
    (told : List Event) (others : List Sent) (front rest : List TraceEntry) (journal : JournalState)
    → IsMoment setup durability preface w told front rest journal
    → Run base told others v → AgreeExceptReceived w v
    → Survives setup durability preface base w told front journal

-- `CrashesLoseSpeechOnly` holds in each life of a gateway: a world to which a journal's events lead agrees with itself.
-- It also holds after a renewal in the world `start`: a gateway can be restored from its checkpoint, and then begins in
-- a world that agrees with `start`.
abbrev pub RenewalsFollow : Type 0
RenewalsFollow =
    (base start : World) (events : List Event) (sent : List Sent)
    → IsBase base → Run base events sent start
    → IsBase start × (start.gateway.config ≡ base.gateway.config)
    × AgreeExceptReceived start (without_speech start)

-- ## Truncated journals

-- Exactly these lasting events had happened by an earlier moment, before or during the session. A message that was
-- announced at that moment may follow.
abbrev pub WereTold : (told : List Event) → (front : List TraceEntry) → List Event → Type 0
WereTold told front first =
    ((others : List Event) × (told ≡ first ++ others))
    ⊎ ((past : List TraceEntry) × (later : List TraceEntry) × (front ≡ past ++ later)
    × ((first ≡ told ++ lasting (events_of_trace past))
    ⊎ ((source : Peer) × (bytes : List ℕ)
    × (first ≡ (told ++ lasting (events_of_trace past)) ++ events.Control source bytes ∷ []))))

-- Wherever the text of a journal is truncated after its preface, its complete lines there are a script of its first
-- events. These events had happened by some moment.
abbrev pub AnyCutIsAMoment : Type 0
AnyCutIsAMoment =
    (setup : Setup) (durability : Durability) (preface : List ℕ) (w : World) (told : List Event)
    (front rest : List TraceEntry) (journal : JournalState) (text cut lost : List ℕ)
    → IsMoment setup durability preface w told front rest journal
    → journal.text ≡ Some text → text ≡ preface ++ (cut ++ lost)
    → (first : List Event) × (others : List Event) × IsJournalOf preface text (first ++ others)
    × IsScriptOf (whole_lines cut) first × WereTold told front first

-- A gateway that begins with the world `base` and resumes from these events is in the world of some moment of the
-- session, except for what was received. It may also be in the world after a message that was announced at that moment.
pub record ResumesAt (base w : World) (front : List TraceEntry) (first : List Event)
    : Type 0 where
  pub past : List TraceEntry
  pub later : List TraceEntry
  pub parts : front ≡ past ++ later
  pub then : World
  pub sent : List Sent
  pub run : Run w (events_of_trace past) sent then
  pub resumes : (resumed : World) (others : List Sent)
      → Run base first others resumed → LosesSpeech 0 then resumed

-- A gateway that resumes from a truncated journal is in the state of some moment before or during the session, except
-- for what was received. It may also have run a message that was announced at that moment.
abbrev pub CutsResumeAMoment : Type 0
CutsResumeAMoment =
    (setup : Setup) (durability : Durability) (preface : List ℕ) (base w v : World)
    (told : List Event) (others : List Sent) (front rest : List TraceEntry) (journal : JournalState)
    (first : List Event)
    → IsMoment setup durability preface w told front rest journal
    → Run base told others v → AgreeExceptReceived w v
    → WereTold told front first
    → ((more : List Event) × (told ≡ first ++ more)) ⊎ ResumesAt base w front first

-- If messages are synced, nothing answered is forgotten even if the machine loses power. A message that isn't oversized
-- was answered at an earlier moment. The disk has the synced text, and perhaps more of the text, up to any byte. The
-- preface is on the disk, and the complete lines after it still contain all lasting events up to this message.
abbrev pub PowerLossesForgetNoAnswer : Type 0
PowerLossesForgetNoAnswer =
    (setup : Setup) (preface : List ℕ) (w : World) (told : List Event)
    (before later rest : List TraceEntry) (to : Peer) (bytes answer : List ℕ) (journal : JournalState)
    (synced more lost : List ℕ) → let front = before ++ Happened (events.Control to bytes) ∷ [] in
    IsMoment setup Synced preface w told (front ++ Called (Send 0 to answer) ∷ later) rest journal
    → is_oversized (events.Control to bytes) ≡ false
    → journal.synced ≡ Some synced → journal.text ≡ Some ((synced ++ more) ++ lost)
    → (others : List Event) × (cut : List ℕ) × (synced ++ more ≡ preface ++ cut)
    × IsScriptOf (whole_lines cut) ((told ++ lasting (events_of_trace front)) ++ others)

-- ## Who hears whom

-- A moment before the crash, in the world `then`. The journal's first events are the lasting ones up to this moment,
-- except for lost ticks. From the world `base`, they lead to a world in which the same speech flows.
pub record TellsFlows (base w : World) (told written : List Event)
    (past : List TraceEntry) (lacking : ℕ) : Type 0 where
  pub then : World
  pub sent : List Sent
  pub run : Run w (events_of_trace past) sent then
  pub first : List Event
  pub others : List Event
  pub parts : written ≡ first ++ others
  pub ticks : ℕ
  pub few : ticks ≤ lacking
  pub lost : lasting (events_of_trace past) ≡ first ++ replicate ticks events.Tick
  pub flows : (u : World) (all : List Sent)
      → Run base (told ++ first) all u
      → (talker listener : ℕ) → flow then.gateway talker listener ≡ flow u.gateway talker listener

-- A journal shows who could hear whom, at each moment before a crash. `survives` describes the journal after the crash.
abbrev pub JournalsTellWhoHears : Type 0
JournalsTellWhoHears =
    (setup : Setup) (durability : Durability) (preface : List ℕ) (base w v : World)
    (told : List Event) (others : List Sent) (past later rest : List TraceEntry) (journal : JournalState)
    → IsMoment setup durability preface w told (past ++ later) rest journal
    → Run base told others v → AgreeExceptReceived w v
    → (survives : Survives setup durability preface base w told (past ++ later) journal)
    → TellsFlows base w told survives.written past (ticks_lacking survives.progress)
