-- The events in a journal after each entry of a trace.
use Rattle.std.proofs.Common.{◌≡◌, ◌⊎◌, inl, inr, ℕ, zero, suc, ◌+◌, ◌-◌, ◌≤◌, Bool, true, false, not, ◌&&◌, ◌||◌, List, [], ◌∷◌, ◌++◌, length, take, replicate, Result, Ok, Err, refl, sym, ap, subst, ◌∙◌, append_assoc, append-nil, arith}
use Rattle.std.specs.Prelude.{if◌then◌else◌}
use Rattle.std.specs.List.{list_any}
use Rattle.std.proofs.lemmas.List.Elements.{filter-append}
use Rattle.mg_core.specs.Counting.{is_media}
use Rattle.mg_serve.proofs.Runs.{events_both}
use Rattle.std.proofs.lemmas.List.Folds.{list_any-append}
use Rattle.std.proofs.lemmas.List.{replicate-append-replicate, replicate_more}
use Rattle.std.specs.Io.KnownBytes.{append_known}
use Rattle.mg_journal.specs.declared.append_fault.AppendFault.{AppendFault}
use Rattle.mg_journal.specs.declared.append_fault.AppendFault.TheVariants.{Refused, Broken}
use Rattle.mg_journal.specs.declared.durability.Durability.{Durability}
use Rattle.mg_journal.specs.declared.durability.Durability.TheVariants.{Synced}
use Rattle.mg_journal.specs.Text.{whole_lines}
use Rattle.mg_journal.specs.Journal.{text_to_seal, JournalState, Breaks, appended, is_synced}
use Rattle.mg_words.specs.declared.peer.Peer.{Peer}
use Rattle.mg_core.specs.declared.event.Event.{Event}
use Rattle.mg_core.specs.declared.event.Event.TheVariants.{Control, Media, Tick}
use Rattle.mg_core.specs.ExceptReceived.{is_oversized, lasting}
use Rattle.mg_core.specs.Recording.{RecordingsAreRead}
use Rattle.mg_ports.specs.declared.call.Call.{Call}
use Rattle.mg_ports.specs.declared.call.Call.TheVariants.{Receive, Send, BeginTick, Append, Renew}
use Rattle.mg_ports.specs.Journaled.{AppendsDated, JournalAfter}
use Rattle.mg_serve.specs.Journaled.{Progress, Lacks, Announces, Advances, AppendsLines, Journals}
use Rattle.mg_serve.specs.JournalLaws.{LosesTicks, TellsEvents, is_renewal}
use Rattle.mg_serve.specs.Trace.{TraceEntry, Called, Happened, Printed, Noted, Stale, calls_of, events_of_trace}
use Rattle.mg_serve.proofs.Printing.{calls_both}
use Rattle.mg_serve.proofs.JournalText.{IsScriptFrom, Tells, count_script, known_more, message_script, written, written_front}

abbrev pub ticks : ℕ → List Event
ticks n = replicate n Tick

-- If the journal works, `told` is everything that happened except for the ticks that the journal lacks. If the journal
-- is broken, `told` may also have some of these ticks, or a message that was not handled.
abbrev pub Standing : Bool → ℕ → List Event → List Event → Type 0
Standing false lacking happened told = happened ≡ told ++ ticks lacking
Standing true lacking happened told = LosesTicks lacking happened told

-- The journal contains the events `told` from before the session. After them come the events that happened, except for
-- lost ticks.
abbrev pub Holds : Durability → (preface : List ℕ) → List Event → List Event → Progress → JournalState → Type 0
Holds durability preface told happened (Lacks lacking) journal =
    (events : List Event) × TellsEvents preface journal (told ++ events) × Standing journal.is_broken lacking happened events
Holds durability preface told happened (Announces source bytes) journal =
    TellsEvents preface journal (told ++ (happened ++ Control source bytes ∷ [])) × (journal.is_broken ≡ false)
    × (durability ≡ Synced → journal.synced ≡ journal.text) × (is_oversized (Control source bytes) ≡ false)

-- ## Lists of ticks

ticks_apart : (left n : ℕ) → ticks (left + n) ≡ ticks n ++ ticks left
ticks_apart left n =
    let swapped : left + n ≡ n + left = omega arith in
    ap ticks swapped ∙ sym (replicate-append-replicate n left Tick)

pub front_ticks : (n : ℕ) (first others : List Event) → ticks n ≡ first ++ others → (first ≡ ticks (length first)) × (length first ≤ n)
front_ticks zero [] others is = (refl, omega arith)
front_ticks zero (x ∷ first) others is = absurd cc
front_ticks (suc n) [] others is = (refl, omega arith)
front_ticks (suc n) (x ∷ first) others is =
    let same : Tick ≡ x = cc in
    let left : ticks n ≡ first ++ others = cc in
    let more = front_ticks n first others left in
    (ap (λ (e : Event). e ∷ first) (sym same) ∙ ap (λ (l : List Event). Tick ∷ l) more.0, omega (arith, more.1))

-- ## Appends

tells_more : (old : JournalState) (part preface : List ℕ) (told events more : List Event) → TellsEvents preface old (told ++ events)
    → IsScriptFrom true part more → Tells preface (append_known old.text part) (told ++ (events ++ more))
tells_more old part preface told events more tells script =
    subst (λ (l : List Event). Tells preface (append_known old.text part) l) (append_assoc told events more)
    (known_more preface old.text part (told ++ events) more tells script)

-- A working journal, too, loses at most the ticks that it lacks.
pub loses_more : (lacking : ℕ) (happened events : List Event) (b : Bool) → Standing b lacking happened events
    → LosesTicks lacking happened events
loses_more lacking happened events true stands = stands
loses_more lacking happened events false stands = record {
  kept = events;
  ticks = lacking;
  few = omega arith;
  lost = stands;
  wrote = inl refl;
}

exact : (lacking : ℕ) (happened events : List Event) (b : Bool) → b ≡ false → Standing b lacking happened events
    → happened ≡ events ++ ticks lacking
exact lacking happened events b works stands = subst (λ (b : Bool). Standing b lacking happened events) works stands

ticks_done : (durability how : Durability) (preface : List ℕ) (told happened events : List Event) (lacking : ℕ) (part : List ℕ)
    (old new : JournalState) → old.is_broken ≡ false → new ≡ appended part how old → TellsEvents preface old (told ++ events)
    → Standing old.is_broken lacking happened events → IsScriptFrom true part (ticks lacking)
    → Holds durability preface told happened (Lacks 0) new
ticks_done durability how preface told happened events lacking part old new works is tells stands script =
    let kept : happened ≡ (events ++ ticks lacking) ++ ticks 0 =
    exact lacking happened events old.is_broken works stands ∙ sym (append-nil (events ++ ticks lacking)) in
    subst (λ (j : JournalState). Holds durability preface told happened (Lacks 0) j) (sym is) (
      events ++ ticks lacking,
      tells_more old part preface told events (ticks lacking) tells script,
      subst (λ (b : Bool). Standing b 0 happened (events ++ ticks lacking)) (sym works) kept,
    )

-- If an append of ticks breaks the journal, some of the ticks may be in it.
ticks_broken : (durability : Durability) (preface : List ℕ) (told happened events : List Event) (lacking : ℕ) (part : List ℕ)
    (old new : JournalState) → Breaks part old new → TellsEvents preface old (told ++ events)
    → (b : Bool) → old.is_broken ≡ b → Standing b lacking happened events → IsScriptFrom true part (ticks lacking)
    → Holds durability preface told happened (Lacks lacking) new
ticks_broken durability preface told happened events lacking part old new breaks tells true was stands script =
    subst (λ (j : JournalState). Holds durability preface told happened (Lacks lacking) j) (sym (breaks.none was))
    (events, tells, subst (λ (b : Bool). Standing b lacking happened events) (sym was) stands)
ticks_broken durability preface told happened events lacking part old new breaks tells false was stands script =
    let (first, others, parts, front_script) = written_front part (ticks lacking) breaks.front script in
    let k = length first in
    let front = front_ticks lacking first others parts in
    let split : lacking ≡ lacking - k + k = omega (arith, front.1) in
    let kept : happened ≡ (events ++ first) ++ ticks (lacking - k) =
    stands ∙ (ap (λ (m : ℕ). events ++ ticks m) split ∙ (ap (λ (l : List Event). events ++ l) (ticks_apart (lacking - k) k)
    ∙ (ap (λ (l : List Event). events ++ (l ++ ticks (lacking - k))) (sym front.0)
    ∙ sym (append_assoc events first (ticks (lacking - k)))))) in
    subst (λ (j : JournalState). Holds durability preface told happened (Lacks lacking) j) (sym breaks.state) (
      events ++ first,
      tells_more old (whole_lines (take breaks.front part)) preface told events first tells front_script,
      record { kept = events ++ first; ticks = lacking - k; few = omega arith; lost = kept; wrote = inl refl },
    )

message_done : (durability : Durability) (preface : List ℕ) (told happened events : List Event) (source : Peer) (bytes part : List ℕ)
    (old new : JournalState) → old.is_broken ≡ false → new ≡ appended part durability old → TellsEvents preface old (told ++ events)
    → Standing old.is_broken 0 happened events → IsScriptFrom true part (Control source bytes ∷ [])
    → is_oversized (Control source bytes) ≡ false
    → Holds durability preface told happened (Announces source bytes) new
message_done durability preface told happened events source bytes part old new works is tells stands script short =
    let kept : events ≡ happened = sym (exact 0 happened events old.is_broken works stands ∙ append-nil events) in
    let message = Control source bytes ∷ [] in
    subst (λ (j : JournalState). Holds durability preface told happened (Announces source bytes) j) (sym is) (
      subst (λ (l : List Event). Tells preface (append_known old.text part) (told ++ (l ++ message))) kept
          (tells_more old part preface told events message tells script),
      works,
      λ sync. ap (λ (d : Durability). if is_synced d then append_known old.text part else old.synced) sync,
      short,
    )

-- A prefix of a list with one message is empty or has this message.
pub one_front : (message : Event) (first others : List Event) → message ∷ [] ≡ first ++ others → (first ≡ []) ⊎ (first ≡ message ∷ [])
one_front message [] others is = inl refl
one_front message (x ∷ []) others is =
    let same : message ≡ x = cc in
    inr (ap (λ (e : Event). e ∷ []) (sym same))
one_front message (x ∷ y ∷ first) others is =
    let none : List Event = [] in
    let left : none ≡ y ∷ (first ++ others) = cc in
    absurd cc

message_lost : (happened events first : List Event) (source : Peer) (bytes : List ℕ) → happened ≡ events ++ ticks 0
    → (first ≡ []) ⊎ (first ≡ Control source bytes ∷ []) → LosesTicks 0 happened (events ++ first)
message_lost happened events first source bytes stands (inl none) = record {
  kept = events;
  ticks = 0;
  few = omega arith;
  lost = stands;
  wrote = inl (ap (λ (l : List Event). events ++ l) none ∙ append-nil events);
}
message_lost happened events first source bytes stands (inr one) = record {
  kept = events;
  ticks = 0;
  few = omega arith;
  lost = stands;
  wrote = inr (source, bytes, ap (λ (l : List Event). events ++ l) one);
}

message_broken : (durability : Durability) (preface : List ℕ) (told happened events : List Event) (source : Peer) (bytes part : List ℕ)
    (old new : JournalState) → Breaks part old new → TellsEvents preface old (told ++ events)
    → (b : Bool) → old.is_broken ≡ b → Standing b 0 happened events → IsScriptFrom true part (Control source bytes ∷ [])
    → Holds durability preface told happened (Lacks 0) new
message_broken durability preface told happened events source bytes part old new breaks tells true was stands script =
    subst (λ (j : JournalState). Holds durability preface told happened (Lacks 0) j) (sym (breaks.none was))
    (events, tells, subst (λ (b : Bool). Standing b 0 happened events) (sym was) stands)
message_broken durability preface told happened events source bytes part old new breaks tells false was stands script =
    let (first, others, parts, front_script) = written_front part (Control source bytes ∷ []) breaks.front script in
    subst (λ (j : JournalState). Holds durability preface told happened (Lacks 0) j) (sym breaks.state) (
      events ++ first,
      tells_more old (whole_lines (take breaks.front part)) preface told events first tells front_script,
      message_lost happened events first source bytes stands (one_front (Control source bytes) first others parts),
    )

same_state : (durability : Durability) (preface : List ℕ) (told happened : List Event) (progress : Progress) (old new : JournalState)
    → new ≡ old → Holds durability preface told happened progress old → Holds durability preface told happened progress new
same_state durability preface told happened progress old new is holds =
    subst (λ (j : JournalState). Holds durability preface told happened progress j) (sym is) holds

append_holds : RecordingsAreRead → (durability how : Durability) (preface : List ℕ) (told happened : List Event)
    (lacking : ℕ) (lines : List ℕ) (result : Result (Unit {0}) AppendFault) (next : Progress) (old new : JournalState)
    → Holds durability preface told happened (Lacks lacking) old → AppendsLines durability lacking lines how result next
    → AppendsDated lines how old new result → Holds durability preface told happened next new
append_holds read durability how preface told happened lacking lines (Ok done) next old new (events, tells, stands) (inl (some, small, are, weak, is)) (seal, comment, sealed, dated, (works, grew)) =
    let script = written read (text_to_seal old) seal comment lines (ticks lacking) sealed dated
    (subst (λ (l : List ℕ). IsScriptFrom true l (ticks lacking)) (sym are) (count_script lacking some small)) in
    subst (λ (p : Progress). Holds durability preface told happened p new) (sym is)
    (ticks_done durability how preface told happened events lacking (seal ++ (comment ++ lines)) old new works grew tells stands script)
append_holds read durability how preface told happened lacking lines (Err Refused) next old new holds (inl (some, small, are, weak, is)) (seal, comment, sealed, dated, (works, same)) =
    subst (λ (p : Progress). Holds durability preface told happened p new) (sym is)
    (same_state durability preface told happened (Lacks lacking) old new same holds)
append_holds read durability how preface told happened lacking lines (Err Broken) next old new (events, tells, stands) (inl (some, small, are, weak, is)) (seal, comment, sealed, dated, breaks) =
    let script = written read (text_to_seal old) seal comment lines (ticks lacking) sealed dated
    (subst (λ (l : List ℕ). IsScriptFrom true l (ticks lacking)) (sym are) (count_script lacking some small)) in
    subst (λ (p : Progress). Holds durability preface told happened p new) (sym is)
    (ticks_broken durability preface told happened events lacking (seal ++ (comment ++ lines)) old new breaks tells
    old.is_broken refl stands script)
append_holds read durability how preface told happened lacking lines (Ok done) next old new (events, tells, stands) (inr (source, bytes, none, are, strong, is, fits, short)) (seal, comment, sealed, dated, (works, grew)) =
    let script = written read (text_to_seal old) seal comment lines (Control source bytes ∷ []) sealed dated
    (subst (λ (l : List ℕ). IsScriptFrom true l (Control source bytes ∷ [])) (sym are) (message_script read source bytes fits)) in
    subst (λ (p : Progress). Holds durability preface told happened p new) (sym is)
    (message_done durability preface told happened events source bytes (seal ++ (comment ++ lines)) old new works
    (grew ∙ ap (λ (d : Durability). appended (seal ++ (comment ++ lines)) d old) strong) tells
    (subst (λ (n : ℕ). Standing old.is_broken n happened events) none stands) script short)
append_holds read durability how preface told happened lacking lines (Err Refused) next old new (events, tells, stands) (inr (source, bytes, none, are, strong, is, fits, short)) (seal, comment, sealed, dated, (works, same)) =
    subst (λ (p : Progress). Holds durability preface told happened p new) (sym is)
    (same_state durability preface told happened (Lacks 0) old new same
    (events, tells, subst (λ (n : ℕ). Standing old.is_broken n happened events) none stands))
append_holds read durability how preface told happened lacking lines (Err Broken) next old new (events, tells, stands) (inr (source, bytes, none, are, strong, is, fits, short)) (seal, comment, sealed, dated, breaks) =
    let script = written read (text_to_seal old) seal comment lines (Control source bytes ∷ []) sealed dated
    (subst (λ (l : List ℕ). IsScriptFrom true l (Control source bytes ∷ [])) (sym are) (message_script read source bytes fits)) in
    subst (λ (p : Progress). Holds durability preface told happened p new) (sym is)
    (message_broken durability preface told happened events source bytes (seal ++ (comment ++ lines)) old new breaks tells
    old.is_broken refl (subst (λ (n : ℕ). Standing old.is_broken n happened events) none stands) script)

-- ## Entries that append nothing

tick_stands : (b : Bool) (lacking : ℕ) (happened events : List Event) → Standing b lacking happened events
    → Standing b (lacking + 1) (happened ++ Tick ∷ []) events
tick_stands false lacking happened events stands =
    ap (λ (l : List Event). l ++ Tick ∷ []) stands ∙ (append_assoc events (ticks lacking) (Tick ∷ [])
    ∙ ap (λ (l : List Event). events ++ l) (replicate_more lacking Tick))
tick_stands true lacking happened events stands = record {
  kept = stands.kept;
  ticks = stands.ticks + 1;
  few = omega (arith, stands.few);
  lost = ap (λ (l : List Event). l ++ Tick ∷ []) stands.lost ∙ (append_assoc stands.kept (ticks stands.ticks) (Tick ∷ [])
      ∙ ap (λ (l : List Event). stands.kept ++ l) (replicate_more stands.ticks Tick));
  wrote = stands.wrote;
}

tick_holds : (durability : Durability) (preface : List ℕ) (told happened : List Event) (lacking : ℕ) (next : Progress) (old new : JournalState)
    → Holds durability preface told happened (Lacks lacking) old → next ≡ Lacks (lacking + 1) → new ≡ old
    → Holds durability preface told (happened ++ Tick ∷ []) next new
tick_holds durability preface told happened lacking next old new (events, tells, stands) is same =
    subst (λ (p : Progress). Holds durability preface told (happened ++ Tick ∷ []) p new) (sym is)
    (same_state durability preface told (happened ++ Tick ∷ []) (Lacks (lacking + 1)) old new same
    (events, tells, tick_stands old.is_broken lacking happened events stands))

-- After the announced message is handled, the journal still has everything that happened.
handled_holds : (durability : Durability) (preface : List ℕ) (told happened : List Event) (source : Peer) (bytes : List ℕ) (old : JournalState)
    → Holds durability preface told happened (Announces source bytes) old
    → Holds durability preface told (happened ++ Control source bytes ∷ []) (Lacks 0) old
handled_holds durability preface told happened source bytes old (tells, works, synced, short) =
    let all = happened ++ Control source bytes ∷ [] in
    (all, tells, subst (λ (b : Bool). Standing b 0 all all) (sym works) (sym (append-nil all)))

no_event : (durability : Durability) (preface : List ℕ) (told happened : List Event) (lacking : ℕ) (next : Progress) (old new : JournalState)
    → Holds durability preface told happened (Lacks lacking) old → next ≡ Lacks lacking → new ≡ old
    → Holds durability preface told (happened ++ []) next new
no_event durability preface told happened lacking next old new holds is same =
    subst (λ (l : List Event). Holds durability preface told l next new) (sym (append-nil happened))
    (subst (λ (p : Progress). Holds durability preface told happened p new) (sym is)
    (same_state durability preface told happened (Lacks lacking) old new same holds))

-- ## Traces

-- A message that isn't oversized is among the lasting events, and an oversized one is not.
pub lasts : (source : Peer) (bytes : List ℕ) (events : List Event) → is_oversized (Control source bytes) ≡ false
    → lasting (Control source bytes ∷ events) ≡ Control source bytes ∷ lasting events
lasts source bytes events short = rw short refl

pub lasts_not : (source : Peer) (bytes : List ℕ) (events : List Event) → is_oversized (Control source bytes) ≡ true
    → lasting (Control source bytes ∷ events) ≡ lasting events
lasts_not source bytes events large = rw large refl

abbrev pub after_entry : List Event → TraceEntry → List Event
after_entry happened entry = happened ++ lasting (events_of_trace (entry ∷ []))

entry_holds : RecordingsAreRead → (durability : Durability) (preface : List ℕ) (told happened : List Event)
    (progress next : Progress) (one : TraceEntry) (old new : JournalState) → Holds durability preface told happened progress old
    → Advances durability progress one next → list_any is_renewal (calls_of (one ∷ [])) ≡ false
    → JournalAfter (calls_of (one ∷ [])) old new
    → Holds durability preface told (after_entry happened one) next new
entry_holds read durability preface told happened (Announces source bytes) next one old new holds (is, at) stays after =
    let one_more : happened ++ lasting (Control source bytes ∷ []) ≡ happened ++ Control source bytes ∷ [] =
    ap (λ (l : List Event). happened ++ l) (lasts source bytes [] holds.3) in
    let mine : JournalAfter (calls_of (Happened (Control source bytes) ∷ [])) old new =
    subst (λ (e : TraceEntry). JournalAfter (calls_of (e ∷ [])) old new) is after in
    subst (λ (e : TraceEntry). Holds durability preface told (after_entry happened e) next new) (sym is)
    (subst (λ (l : List Event). Holds durability preface told l next new) (sym one_more)
    (subst (λ (p : Progress). Holds durability preface told (happened ++ Control source bytes ∷ []) p new) (sym at)
    (same_state durability preface told (happened ++ Control source bytes ∷ []) (Lacks 0) old new mine
    (handled_holds durability preface told happened source bytes old holds))))
entry_holds read durability preface told happened (Lacks n) next (Called (Append lines how result)) old new holds step stays (mid, dated, same) =
    subst (λ (l : List Event). Holds durability preface told l next new) (sym (append-nil happened))
    (same_state durability preface told happened next mid new same
    (append_holds read durability how preface told happened n lines result next old mid holds step dated))
entry_holds read durability preface told happened (Lacks n) next (Called (Renew text how (Ok done))) old new holds step stays after =
    absurd cc
entry_holds read durability preface told happened (Lacks n) next (Called (Renew text how (Err fault))) old new holds (same, step) stays (mid, (follows, comment, follow, dated, kept), after) =
    no_event durability preface told happened n next old new holds step (after ∙ kept)
entry_holds read durability preface told happened (Lacks n) next (Called (Receive socket receipt)) old new holds step stays after =
    no_event durability preface told happened n next old new holds step after
entry_holds read durability preface told happened (Lacks n) next (Called (Send socket to bytes)) old new holds step stays after =
    no_event durability preface told happened n next old new holds step after
entry_holds read durability preface told happened (Lacks n) next (Called (BeginTick timing)) old new holds step stays after =
    no_event durability preface told happened n next old new holds step after
entry_holds read durability preface told happened (Lacks n) next (Happened (Control source bytes)) old new holds (large, step) stays after =
    subst (λ (l : List Event). Holds durability preface told (happened ++ l) next new) (sym (lasts_not source bytes [] large))
    (no_event durability preface told happened n next old new holds step after)
entry_holds read durability preface told happened (Lacks n) next (Happened (Media port source bytes)) old new holds step stays after =
    no_event durability preface told happened n next old new holds step after
entry_holds read durability preface told happened (Lacks n) next (Happened Tick) old new holds step stays after =
    tick_holds durability preface told happened n next old new holds step after
entry_holds read durability preface told happened (Lacks n) next (Printed text) old new holds step stays after =
    no_event durability preface told happened n next old new holds step after
entry_holds read durability preface told happened (Lacks n) next (Noted text) old new holds step stays after =
    no_event durability preface told happened n next old new holds step after
entry_holds read durability preface told happened (Lacks n) next (Stale source bytes) old new holds step stays after =
    no_event durability preface told happened n next old new holds step after

-- ## The parts of a trace

pub quiet_both : (p q : List TraceEntry) →
    lasting (events_of_trace (p ++ q)) ≡ lasting (events_of_trace p) ++ lasting (events_of_trace q)
quiet_both p q =
    ap lasting (events_both p q)
    ∙ filter-append (λ e. not (is_media e) && not (is_oversized e)) (events_of_trace p) (events_of_trace q)

pub after_parts : (p q : List Call) (old new : JournalState) → JournalAfter (p ++ q) old new
    → (mid : JournalState) × JournalAfter p old mid × JournalAfter q mid new
after_parts [] q old new after = (old, refl, after)
after_parts (Append lines how result ∷ p) q old new (next, dated, after) =
    let (mid, first, other) = after_parts p q next new after in
    (mid, (next, dated, first), other)
after_parts (Renew text how result ∷ p) q old new (next, dated, after) =
    let (mid, first, other) = after_parts p q next new after in
    (mid, (next, dated, first), other)
after_parts (Receive socket receipt ∷ p) q old new after = after_parts p q old new after
after_parts (Send socket to bytes ∷ p) q old new after = after_parts p q old new after
after_parts (BeginTick timing ∷ p) q old new after = after_parts p q old new after

pub journals_parts : (durability : Durability) (old new : Progress) (p q : List TraceEntry) → Journals durability old (p ++ q) new
    → (mid : Progress) × Journals durability old p mid × Journals durability mid q new
journals_parts durability old new [] q js = (old, refl, js)
journals_parts durability old new (one ∷ p) q (next, step, js) =
    let (mid, first, other) = journals_parts durability next new p q js in
    (mid, (next, step, first), other)

or_false : (a b : Bool) → (a || b) ≡ false → (a ≡ false) × (b ≡ false)
or_false true b h = absurd cc
or_false false b h = (refl, h)

-- If a trace has no successful renewal, neither have its parts.
pub unrenewed_parts : (p q : List TraceEntry) → list_any is_renewal (calls_of (p ++ q)) ≡ false →
    (list_any is_renewal (calls_of p) ≡ false) × (list_any is_renewal (calls_of q) ≡ false)
unrenewed_parts p q stays =
    or_false (list_any is_renewal (calls_of p)) (list_any is_renewal (calls_of q))
    (sym (ap (list_any is_renewal) (calls_both p q) ∙ list_any-append is_renewal (calls_of p) (calls_of q)) ∙ stays)

-- After a trace, the journal still has the events of the session.
pub trace_holds : RecordingsAreRead → (durability : Durability) (preface : List ℕ) (told happened : List Event)
    (trace : List TraceEntry) (progress next : Progress) (old new : JournalState) → Holds durability preface told happened progress old
    → Journals durability progress trace next → list_any is_renewal (calls_of trace) ≡ false
    → JournalAfter (calls_of trace) old new → Holds durability preface told (happened ++ lasting (events_of_trace trace)) next new
trace_holds read durability preface told happened [] progress next old new holds js stays after =
    subst (λ (l : List Event). Holds durability preface told l next new) (sym (append-nil happened))
    (subst (λ (p : Progress). Holds durability preface told happened p new) (sym js)
    (same_state durability preface told happened progress old new after holds))
trace_holds read durability preface told happened (one ∷ trace) progress next old new holds (mid, step, js) stays after =
    let apart = unrenewed_parts (one ∷ []) trace stays in
    let (state, first, others) =
    after_parts (calls_of (one ∷ [])) (calls_of trace) old new
    (subst (λ (l : List Call). JournalAfter l old new) (calls_both (one ∷ []) trace) after) in
    let here = entry_holds read durability preface told happened progress mid one old state holds step apart.0 first in
    let there = trace_holds read durability preface told (after_entry happened one) trace mid next state new here js apart.1 others in
    subst (λ (l : List Event). Holds durability preface told l next new)
    (append_assoc happened (lasting (events_of_trace (one ∷ []))) (lasting (events_of_trace trace))
    ∙ ap (λ (l : List Event). happened ++ l) (sym (quiet_both (one ∷ []) trace))) there

-- At the start, the journal has only its earlier events.
pub start_holds : (durability : Durability) (preface : List ℕ) (told : List Event) (journal : JournalState) → TellsEvents preface journal told
    → Holds durability preface told [] (Lacks 0) journal
start_holds durability preface told journal tells =
    ([], subst (λ (l : List Event). TellsEvents preface journal l) (sym (append-nil told)) tells, stands journal.is_broken)
  where
    stands : (b : Bool) → Standing b 0 [] []
    stands false = refl
    stands true = record { kept = []; ticks = 0; few = omega arith; lost = refl; wrote = inl refl }
