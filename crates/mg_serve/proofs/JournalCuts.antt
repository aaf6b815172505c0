-- A truncated journal contains the events up to some moment.
use Rattle.std.proofs.Common.{◌≡◌, ◌⊎◌, inl, inr, ℕ, Bool, true, false, List, [], ◌∷◌, ◌++◌, replicate, Option, refl, sym, ap, subst, ◌∙◌, append_assoc, append-nil, arith}
use Rattle.std.proofs.lemmas.List.{append_cancel_left}
use Rattle.mg_journal.specs.declared.durability.Durability.{Durability}
use Rattle.mg_journal.specs.Journal.{JournalState}
use Rattle.mg_words.specs.declared.peer.Peer.{Peer}
use Rattle.mg_core.specs.declared.event.Event.{Event}
use Rattle.mg_core.specs.declared.event.Event.TheVariants.{Control, Media, Tick}
use Rattle.mg_core.specs.ExceptReceived.{AgreeExceptReceived, RtpChangesSpeechOnly, is_oversized, lasting}
use Rattle.mg_core.specs.Recording.{RecordingsAreRead}
use Rattle.mg_core.specs.Step.{Sent, Run}
use Rattle.mg_core.specs.World.{World}
use Rattle.mg_serve.specs.JournalLaws.{AnyCutIsAMoment, CutsResumeAMoment, IsJournalOf, IsMoment, LosesTicks, ResumesAt, WereTold}
use Rattle.mg_serve.specs.Setup.{Setup}
use Rattle.mg_serve.specs.Theorems.{SessionsAreRuns}
use Rattle.mg_serve.specs.Trace.{TraceEntry, Called, Happened, Printed, Noted, Stale, events_of_trace}
use Rattle.mg_serve.proofs.JournalCrashes.{front_run, moment_told, resumed_as, split_run}
use Rattle.mg_serve.proofs.ReadBack.{OneOutcome}
use Rattle.mg_serve.proofs.Runs.{events_both}
use Rattle.mg_serve.proofs.JournalSteps.{lasts, lasts_not, one_front}
use Rattle.mg_serve.proofs.JournalText.{Tells, cut_script}

-- ## Two ways to split a list

abbrev pub Apart : (a b c d : List Event) → Type 0
Apart a b c d =
    ((x : List Event) × (a ≡ c ++ x) × (d ≡ x ++ b)) ⊎ ((y : List Event) × (c ≡ a ++ y) × (b ≡ y ++ d))

apart_more : (e f : Event) (a b c d : List Event) → e ≡ f → Apart a b c d → Apart (e ∷ a) b (f ∷ c) d
apart_more e f a b c d same (inl (x, is, left)) =
    inl (x, ap (λ (l : List Event). e ∷ l) is ∙ ap (λ (g : Event). g ∷ (c ++ x)) same, left)
apart_more e f a b c d same (inr (y, is, left)) =
    inr (y, ap (λ (l : List Event). f ∷ l) is ∙ ap (λ (g : Event). g ∷ (a ++ y)) (sym same), left)

-- If two concatenations are equal, one of their first parts is a prefix of the other.
pub apart : (a b c d : List Event) → a ++ b ≡ c ++ d → Apart a b c d
apart [] b c d is = inr (c, refl, is)
apart (e ∷ a) b [] d is = inl (e ∷ a, refl, sym is)
apart (e ∷ a) b (f ∷ c) d is =
    let same : e ≡ f = cc in
    let left : a ++ b ≡ c ++ d = cc in
    apart_more e f a b c d same (apart a b c d left)

-- ## Moments of a trace

abbrev IsPast : List TraceEntry → List Event → Type 0
IsPast front events =
    (past : List TraceEntry) × (later : List TraceEntry) × (front ≡ past ++ later)
    × (lasting (events_of_trace past) ≡ events)

after_quiet : (one : TraceEntry) (front : List TraceEntry) (events : List Event)
    → ((past : List TraceEntry) → lasting (events_of_trace (one ∷ past)) ≡ lasting (events_of_trace past))
    → IsPast front events → IsPast (one ∷ front) events
after_quiet one front events quiet (past, later, parts, are) =
    (one ∷ past, later, ap (λ (l : List TraceEntry). one ∷ l) parts, quiet past ∙ are)

after_event : (event first : Event) (front : List TraceEntry) (events : List Event)
    → ((past : List TraceEntry) → lasting (events_of_trace (Happened event ∷ past)) ≡ event ∷ lasting (events_of_trace past))
    → event ≡ first → IsPast front events → IsPast (Happened event ∷ front) (first ∷ events)
after_event event first front events loud same (past, later, parts, are) = (
  Happened event ∷ past,
  later,
  ap (λ (l : List TraceEntry). Happened event ∷ l) parts,
  loud past ∙ (ap (λ (l : List Event). event ∷ l) are ∙ ap (λ (e : Event). e ∷ events) same),
)

after_control : (source : Peer) (bytes : List ℕ) (e : Event) (front : List TraceEntry) (events rest : List Event) (large : Bool)
    → is_oversized (Control source bytes) ≡ large
    → lasting (events_of_trace (Happened (Control source bytes) ∷ front)) ≡ e ∷ (events ++ rest)
    → ((es : List Event) → lasting (events_of_trace front) ≡ es ++ rest → IsPast front es)
    → IsPast (Happened (Control source bytes) ∷ front) (e ∷ events)
after_control source bytes e front events rest true large is past =
    after_quiet (Happened (Control source bytes)) front (e ∷ events) (λ before. lasts_not source bytes (events_of_trace before) large)
    (past (e ∷ events) (sym (lasts_not source bytes (events_of_trace front) large) ∙ is))
after_control source bytes e front events rest false short is past =
    let both : Control source bytes ∷ lasting (events_of_trace front) ≡ e ∷ (events ++ rest) =
    sym (lasts source bytes (events_of_trace front) short) ∙ is in
    let same : Control source bytes ≡ e = cc in
    let left : lasting (events_of_trace front) ≡ events ++ rest = cc in
    after_event (Control source bytes) e front events (λ before. lasts source bytes (events_of_trace before) short) same (past events left)

-- A trace has a moment up to which exactly these lasting events happened.
past_of : (front : List TraceEntry) (events rest : List Event) → lasting (events_of_trace front) ≡ events ++ rest
    → IsPast front events
past_of front [] rest is = ([], front, refl, refl)
past_of [] (e ∷ events) rest is =
    let none : List Event = [] in
    let wrong : none ≡ e ∷ (events ++ rest) = is in
    absurd cc
past_of (Called call ∷ front) (e ∷ events) rest is =
    after_quiet (Called call) front (e ∷ events) (λ past. refl) (past_of front (e ∷ events) rest is)
past_of (Happened (Control source bytes) ∷ front) (e ∷ events) rest is =
    after_control source bytes e front events rest (is_oversized (Control source bytes)) refl is (λ es h. past_of front es rest h)
past_of (Happened (Media port source bytes) ∷ front) (e ∷ events) rest is =
    after_quiet (Happened (Media port source bytes)) front (e ∷ events) (λ past. refl) (past_of front (e ∷ events) rest is)
past_of (Happened Tick ∷ front) (e ∷ events) rest is =
    let same : Tick ≡ e = cc in
    let left : lasting (events_of_trace front) ≡ events ++ rest = cc in
    after_event Tick e front events (λ past. refl) same (past_of front events rest left)
past_of (Printed text ∷ front) (e ∷ events) rest is =
    after_quiet (Printed text) front (e ∷ events) (λ past. refl) (past_of front (e ∷ events) rest is)
past_of (Noted text ∷ front) (e ∷ events) rest is =
    after_quiet (Noted text) front (e ∷ events) (λ past. refl) (past_of front (e ∷ events) rest is)
past_of (Stale source bytes ∷ front) (e ∷ events) rest is =
    after_quiet (Stale source bytes) front (e ∷ events) (λ past. refl) (past_of front (e ∷ events) rest is)

-- ## A truncated journal describes a moment

-- Each prefix of the kept events is what had happened by some moment.
first_kept : (told : List Event) (front : List TraceEntry) (first more kept rest : List Event) (ticks : ℕ)
    → first ≡ told ++ more → kept ≡ more ++ rest
    → lasting (events_of_trace front) ≡ kept ++ replicate ticks Tick → WereTold told front first
first_kept told front first more kept rest ticks is parts lost =
    let (past, later, here, are) =
    past_of front more (rest ++ replicate ticks Tick)
    (lost ∙ (ap (λ (l : List Event). l ++ replicate ticks Tick) parts ∙ append_assoc more rest (replicate ticks Tick))) in
    inr (past, later, here, inl (is ∙ ap (λ (l : List Event). told ++ l) (sym are)))

-- At some moment, the journal contained exactly the kept events and a message that was announced.
with_message : (told : List Event) (front : List TraceEntry) (first more kept : List Event) (ticks : ℕ) (source : Peer)
    (bytes : List ℕ) → first ≡ told ++ more → more ≡ kept ++ Control source bytes ∷ []
    → lasting (events_of_trace front) ≡ kept ++ replicate ticks Tick → WereTold told front first
with_message told front first more kept ticks source bytes is announced lost =
    let message = Control source bytes ∷ [] in
    let (past, later, here, are) = past_of front kept (replicate ticks Tick) lost in
    inr (
      past,
      later,
      here,
      inr (
        source,
        bytes,
        is ∙ (ap (λ (l : List Event). told ++ l) announced ∙ (sym (append_assoc told kept message)
            ∙ ap (λ (l : List Event). (told ++ l) ++ message) (sym are))),
      ),
    )

message_cut : (told : List Event) (front : List TraceEntry) (first more others kept : List Event) (ticks : ℕ) (source : Peer)
    (bytes : List ℕ) → first ≡ told ++ more → lasting (events_of_trace front) ≡ kept ++ replicate ticks Tick
    → Apart kept (Control source bytes ∷ []) more others → WereTold told front first
message_cut told front first more others kept ticks source bytes is lost (inl (rest, parts, left)) =
    first_kept told front first more kept rest ticks is parts lost
message_cut told front first more others kept ticks source bytes is lost (inr (end, parts, left)) =
    ended (one_front (Control source bytes) end others left)
  where
    ended : (end ≡ []) ⊎ (end ≡ Control source bytes ∷ []) → WereTold told front first
    ended (inl none) =
        first_kept told front first more kept [] ticks is
        (sym (append-nil kept) ∙ (ap (λ (l : List Event). kept ++ l) (sym none) ∙ (sym parts ∙ sym (append-nil more)))) lost
    ended (inr one) =
        with_message told front first more kept ticks source bytes is (parts ∙ ap (λ (l : List Event). kept ++ l) one) lost

more_cut : (told : List Event) (front : List TraceEntry) (first more others written : List Event) (lacking : ℕ)
    → first ≡ told ++ more → written ≡ more ++ others
    → (loses : LosesTicks lacking (lasting (events_of_trace front)) written)
    → (written ≡ loses.kept)
    ⊎ ((source : Peer) × (bytes : List ℕ) × (written ≡ loses.kept ++ Control source bytes ∷ []))
    → WereTold told front first
more_cut told front first more others written lacking is parts loses (inl same) =
    first_kept told front first more loses.kept others loses.ticks is (sym same ∙ parts) loses.lost
more_cut told front first more others written lacking is parts loses (inr (source, bytes, same)) =
    message_cut told front first more others loses.kept loses.ticks source bytes is loses.lost
    (apart loses.kept (Control source bytes ∷ []) more others (sym same ∙ parts))

were_told : (told : List Event) (front : List TraceEntry) (first others written : List Event) (lacking : ℕ)
    → LosesTicks lacking (lasting (events_of_trace front)) written → Apart told written first others
    → WereTold told front first
were_told told front first others written lacking loses (inl (rest, parts, left)) = inl (rest, parts)
were_told told front first others written lacking loses (inr (more, is, parts)) =
    more_cut told front first more others written lacking is parts loses loses.wrote

same_tail : (preface : List ℕ) (a b text : List ℕ) → text ≡ preface ++ a → text ≡ preface ++ b → a ≡ b
same_tail preface a b text one other = append_cancel_left preface a b (sym one ∙ other)

pub any_cut : RecordingsAreRead → AnyCutIsAMoment
any_cut read setup durability preface w told front rest journal text cut lost moment known parts =
    let (progress, js, (written, tells, loses)) = moment_told read setup durability preface w told front rest journal moment in
    let (tail, is, script, marks) =
    subst (λ (o : Option (List ℕ)). Tells preface o (told ++ written)) known tells in
    let (first, others, apart_is, front_script) =
    cut_script false tail cut lost (told ++ written) (same_tail preface tail (cut ++ lost) text is parts) script in (
      first,
      others,
      subst (λ (l : List Event). IsJournalOf preface text l) apart_is (tail, is, script, marks),
      front_script,
      were_told told front first others written _ loses (apart told written first others apart_is),
    )

-- ## Resuming from a truncated journal

module _ (runs : SessionsAreRuns) (one : OneOutcome) (law : RtpChangesSpeechOnly) where
  resumes_at : (setup : Setup) (durability : Durability) (preface : List ℕ) (base w v : World) (told : List Event) (others : List Sent)
      (front rest : List TraceEntry) (journal : JournalState) (first : List Event)
      → IsMoment setup durability preface w told front rest journal → Run base told others v
      → AgreeExceptReceived w v → (past later : List TraceEntry) → front ≡ past ++ later → (written : List Event)
      → first ≡ told ++ written → LosesTicks 0 (lasting (events_of_trace past)) written
      → ResumesAt base w front first
  resumes_at setup durability preface base w v told others front rest journal first moment before agree past later parts written is loses =
      let (a, now, whole) =
      front_run setup w moment.last front rest (runs setup moment.commands w moment.last (front ++ rest) moment.session) in
      let (sent, tail, then_world, run, more) =
      split_run w now (events_of_trace past) (events_of_trace later) a
      (subst (λ (l : List Event). Run w l a now) (ap events_of_trace parts ∙ events_both past later) whole) in
      record {
        past = past;
        later = later;
        parts = parts;
        then = then_world;
        sent = sent;
        run = run;
        resumes = λ resumed all ran.
            let (s, t, mid, start, rest_run) =
            split_run base resumed told written all
            (subst (λ (l : List Event). Run base l all resumed) is ran) in
            let same : mid ≡ v = (one base told s others mid v start before).1 in
            resumed_as law w v then_world resumed (events_of_trace past) written 0 sent t agree run
            (subst (λ (x : World). Run x written t resumed) same rest_run) loses loses.wrote;
      }

  pub cuts_resume : CutsResumeAMoment
  cuts_resume setup durability preface base w v told others front rest journal first moment before agree (inl earlier) = inl earlier
  cuts_resume setup durability preface base w v told others front rest journal first moment before agree (inr (past, later, parts, inl is)) =
      let events = lasting (events_of_trace past) in
      inr (resumes_at setup durability preface base w v told others front rest journal first moment before agree past later parts events is
      (record { kept = events; ticks = 0; few = omega arith; lost = sym (append-nil events); wrote = inl refl }))
  cuts_resume setup durability preface base w v told others front rest journal first moment before agree (inr (past, later, parts, inr (source, bytes, is))) =
      let events = lasting (events_of_trace past) in
      let message = Control source bytes ∷ [] in
      inr (resumes_at setup durability preface base w v told others front rest journal first moment before agree past later parts
      (events ++ message) (is ∙ append_assoc told events message)
      (record { kept = events; ticks = 0; few = omega arith; lost = sym (append-nil events); wrote = inr (source, bytes, refl) }))
