-- A crash loses received RTP and a few ticks, and nothing else.
use Rattle.std.proofs.Common.{◌≡◌, ◌⊎◌, inl, inr, ℕ, zero, suc, List, [], ◌∷◌, ◌++◌, map, replicate, refl, sym, subst, append-nil, arith}
use Rattle.mg_journal.specs.declared.durability.Durability.{Durability}
use Rattle.mg_journal.specs.Journal.{JournalState}
use Rattle.mg_words.specs.declared.peer.Peer.{Peer}
use Rattle.mg_core.specs.declared.event.Event.{Event}
use Rattle.mg_core.specs.declared.event.Event.TheVariants.{Control, Tick}
use Rattle.mg_core.specs.ExceptReceived.{AgreeExceptReceived, RtpChangesSpeechOnly, lasting}
use Rattle.mg_core.specs.Recording.{RecordingsAreRead}
use Rattle.mg_core.specs.Base.{BasesStayBases}
use Rattle.mg_checkpoint.specs.Checkpoint.{CheckpointsLoseSpeechOnly}
use Rattle.mg_core.specs.Step.{Sent, Packet, Run, Step}
use Rattle.mg_core.specs.World.{World, packets_of, world_after_tick, world_after_ticks}
use Rattle.mg_core.proofs.RunLemmas.{run_both}
use Rattle.mg_serve.specs.Journaled.{Progress, Lacks, Announces, Journals}
use Rattle.mg_serve.specs.JournalLaws.{CrashesLoseSpeechOnly, IsMoment, RenewalsFollow, LosesSpeech, LosesTicks, TellsEvents, ticks_lacking}
use Rattle.mg_serve.specs.Setup.{Setup}
use Rattle.mg_serve.specs.Theorems.{SendsAreARun, SessionsAreRuns}
use Rattle.mg_serve.specs.Trace.{TraceEntry, events_of_trace}
use Rattle.mg_serve.proofs.JournalAnswers.{journals_of}
use Rattle.mg_serve.proofs.ReadBack.{OneOutcome}
use Rattle.mg_serve.proofs.Runs.{events_both}
use Rattle.mg_serve.proofs.JournalSteps.{Holds, journals_parts, loses_more, start_holds, trace_holds}

-- ## Splitting a run in two

pub split_run : (w last : World) (es fs : List Event) (sent : List Sent) → Run w (es ++ fs) sent last
    → (a : List Sent) × (b : List Sent) × (mid : World) × Run w es a mid × Run mid fs b last
split_run w last [] fs sent run = ([], sent, w, (refl, refl), run)
split_run w last (e ∷ es) fs sent (first, others, next, step, run, is) =
    let (a, b, mid, one, other) = split_run next last es fs others run in
    (first ++ a, b, mid, (first, a, next, step, one, refl), other)

ticks_run : (n : ℕ) (w : World) → (sent : List Sent) × Run w (replicate n Tick) sent (world_after_ticks n w)
ticks_run zero w = ([], (refl, refl))
ticks_run (suc n) w =
    let first = map Packet (packets_of w) in
    let (others, run) = ticks_run n (world_after_tick w) in
    (first ++ others, (first, others, world_after_tick w, (refl, refl), run, refl))

-- If the events of a session form a run, so do the events of its first part.
pub front_run : (setup : Setup) (w last : World) (front rest : List TraceEntry) → SendsAreARun setup w (front ++ rest) last
    → (sent : List Sent) × (now : World) × Run w (events_of_trace front) sent now
front_run setup w last front rest ran =
    let (a, b, now, one, other) =
    split_run w last (events_of_trace front) (events_of_trace rest) ran.sent
    (subst (λ (l : List Event). Run w l ran.sent last) (events_both front rest) ran.run) in
    (a, now, one)

-- ## The events in a journal

abbrev pub ToldAt : (preface : List ℕ) → List Event → List Event → Progress → JournalState → Type 0
ToldAt preface told happened progress journal =
    (written : List Event) × TellsEvents preface journal (told ++ written) × LosesTicks (ticks_lacking progress) happened written

told_at : (durability : Durability) (preface : List ℕ) (told happened : List Event) (progress : Progress) (journal : JournalState)
    → Holds durability preface told happened progress journal → ToldAt preface told happened progress journal
told_at durability preface told happened (Lacks n) journal (events, tells, stands) =
    (events, tells, loses_more n happened events journal.is_broken stands)
told_at durability preface told happened (Announces source bytes) journal (tells, works, synced, short) = (
  happened ++ Control source bytes ∷ [],
  tells,
  record {
    kept = happened;
    ticks = 0;
    few = omega arith;
    lost = sym (append-nil happened);
    wrote = inr (source, bytes, refl);
  },
)

-- At a moment of a session, the journal has the lasting events that happened, except for lost ticks.
pub moment_told : RecordingsAreRead → (setup : Setup) (durability : Durability) (preface : List ℕ) (w : World)
    (told : List Event) (front rest : List TraceEntry) (journal : JournalState)
    → IsMoment setup durability preface w told front rest journal
    → (progress : Progress) × Journals durability (Lacks 0) front progress
    × ToldAt preface told (lasting (events_of_trace front)) progress journal
moment_told read setup durability preface w told front rest journal moment =
    let (progress, js, others) =
    journals_parts durability (Lacks 0) (Lacks moment.lacking) front rest
    (journals_of setup durability (front ++ rest) moment.lacking moment.has moment.lacks) in (
      progress,
      js,
      told_at durability preface told (lasting (events_of_trace front)) progress journal
          (trace_holds read durability preface told [] front (Lacks 0) progress moment.start journal
          (start_holds durability preface told moment.start moment.tells) js
          moment.unrenewed moment.after),
    )

-- ## Resuming after a crash

-- After the lost ticks, the worlds agree except for what was received.
pub after_lost : RtpChangesSpeechOnly → (w v now before : World) (events kept : List Event) (ticks : ℕ) (sent others : List Sent)
    → AgreeExceptReceived w v → Run w events sent now → Run v kept others before
    → lasting events ≡ kept ++ replicate ticks Tick → AgreeExceptReceived now (world_after_ticks ticks before)
after_lost law w v now before events kept ticks sent others agree run quiet lost =
    let (more, ticked) = ticks_run ticks before in
    let all : Run v (lasting events) (others ++ more) (world_after_ticks ticks before) =
    subst (λ (l : List Event). Run v l (others ++ more) (world_after_ticks ticks before)) (sym lost)
    (run_both v before (world_after_ticks ticks before) kept (replicate ticks Tick) others more quiet ticked) in
    law w v now (world_after_ticks ticks before) events sent (others ++ more) agree run all

pub resumed_as : RtpChangesSpeechOnly → (w v now resumed : World) (events written : List Event) (lacking : ℕ)
    (sent others : List Sent) → AgreeExceptReceived w v → Run w events sent now → Run v written others resumed
    → (loses : LosesTicks lacking (lasting events) written)
    → (written ≡ loses.kept)
    ⊎ ((source : Peer) × (bytes : List ℕ) × (written ≡ loses.kept ++ Control source bytes ∷ []))
    → LosesSpeech lacking now resumed
resumed_as law w v now resumed events written lacking sent others agree run told loses (inl is) = record {
  before = resumed;
  ticks = loses.ticks;
  few = loses.few;
  agrees = after_lost law w v now resumed events loses.kept loses.ticks sent others agree run
      (subst (λ (l : List Event). Run v l others resumed) is told) loses.lost;
  resumes = inl refl;
}
resumed_as law w v now resumed events written lacking sent others agree run told loses (inr (source, bytes, is)) =
    let (a, b, before, quiet, (first, more, next, step, (none, same), apart)) =
    split_run v resumed loses.kept (Control source bytes ∷ []) others
    (subst (λ (l : List Event). Run v l others resumed) is told) in
    record {
      before = before;
      ticks = loses.ticks;
      few = loses.few;
      agrees = after_lost law w v now before events loses.kept loses.ticks sent a agree run quiet loses.lost;
      resumes = inr (source, bytes, first, subst (λ (x : World). Step before (Control source bytes) first x) (sym same) step);
    }

pub crashes_lose_speech : RecordingsAreRead → SessionsAreRuns → OneOutcome → RtpChangesSpeechOnly
    → CrashesLoseSpeechOnly
crashes_lose_speech read runs one law setup durability preface base w v told others front rest journal moment before agree =
    let (sent, now, run) =
    front_run setup w moment.last front rest
    (runs setup moment.commands w moment.last (front ++ rest) moment.session) in
    let (progress, js, (written, tells, loses)) = moment_told read setup durability preface w told front rest journal moment in
    record {
      now = now;
      sent = sent;
      run = run;
      progress = progress;
      reached = js;
      written = written;
      tells = tells;
      loses = loses;
      resumes = λ resumed all ran.
          let (a, b, mid, first, then) = split_run base resumed told written all ran in
          let same : mid ≡ v = (one base told a others mid v first before).1 in
          resumed_as law w v now resumed (events_of_trace front) written (ticks_lacking progress) sent b agree run
          (subst (λ (x : World). Run x written b resumed) same then) loses loses.wrote;
    }

pub renewals_follow : BasesStayBases → CheckpointsLoseSpeechOnly → RenewalsFollow
renewals_follow stay lose base start events sent is run =
    let (begins, same) = stay base start events sent is run in
    (begins, same, lose start)
