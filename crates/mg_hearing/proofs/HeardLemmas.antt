-- The first line of a script, and the output about the script.
use Rattle.std.proofs.Common.{◌≡◌, ◌≢◌, ◌∙◌, ℕ, true, List, [], ◌∷◌, ◌++◌, Option, Some, None, ap, append_assoc, codes, inl, inr, reverse, subst, sym}
use Rattle.std.specs.Prelude.{IfSome}
use Rattle.std.specs.Fmt.{option_append}
use Rattle.mg_engine.specs.declared.config.Config.{Config}
use Rattle.mg_core.specs.declared.state.CoreState.{CoreState}
use Rattle.mg_core.specs.Follow.{IsFollowed}
use Rattle.mg_core.specs.Note.{Note, events_in}
use Rattle.mg_core.specs.World.{World}
use Rattle.mg_dates.specs.declared.date.Date.{Date}
use Rattle.mg_heard.specs.declared.entry.Entry.{Entry}
use Rattle.mg_heard.specs.declared.extent.Extent.{Extent}
use Rattle.mg_heard.specs.declared.missing.Missing.{Missing}
use Rattle.mg_heard.specs.declared.verdict.Verdict.{Verdict}
use Rattle.mg_heard.specs.Came.{unless_missing}
use Rattle.mg_heard.specs.declared.verdict.Verdict.TheVariants as verdicts
use Rattle.mg_heard.specs.aids.Calling.{AreMissing}
use Rattle.mg_options.specs.declared.status.Status.TheVariants.{Done, Unknown}
use Rattle.mg_heard.specs.Reported.{WritesReport, WritesVerdict}
use Rattle.mg_heard.specs.Times.{extent_of}
use Rattle.mg_heard.specs.Told.{TellsAll}
use Rattle.mg_heard.specs.Verdict.{verdict_at}
use Rattle.mg_heard.proofs.KeptTickLemmas.{tells_weaker}
use Rattle.mg_options.specs.declared.status.Status.{Status}
use Rattle.mg_hearing.specs.declared.question.Question.{Question}
use Rattle.mg_hearing.specs.Absence.{absences}
use Rattle.mg_hearing.specs.Files.{ReadsAll, ReadsFiles}
use Rattle.mg_hearing.specs.Heard.{IsAsked, IsHeard, IsHeardFrom, IsRead, Prints, status_for}
use Rattle.mg_host.specs.declared.host_call.HostCall.{HostCall}
use Rattle.mg_options.specs.Status.{UnlessFault}
use Rattle.mg_heard.specs.Came.{IsMissing}
use Rattle.mg_hearing.specs.Page.{script_name}
use Rattle.mg_hearing.specs.aids.Beginning.{HasBegun, IsBeginningOf, checkpoint_of}
use Rattle.mg_hearing.specs.aids.Forms.{PrintsLines}
use Rattle.mg_hearing.specs.declared.start.Start.{Start}
use Rattle.mg_hearing.proofs.ReadLemmas.{reads_files}
use Rattle.mg_hearing.proofs.BeginningLemmas.{has_script, is_titled, read_script, script_of}
use Rattle.mg_arguments.specs.declared.heard_request.HeardRequest.{HeardRequest}
use Rattle.mg_service.specs.Title.{title_line}
use Rattle.mg_service.specs.Title.{title_text}

-- ## The first line

-- A line that has a title between `# ` and the line feed is a title line.
pub title_is : (line text title : List ℕ) (found : Option Config) → line ≡ text ++ codes "\n" →
    text ≡ codes "# " ++ title → IfSome found (λ config. title ≡ title_text config) →
    IfSome found (λ config. line ≡ title_line config)
title_is line text title None fed marked is = tt
title_is line text title (Some config) fed marked is =
    fed ∙ ap (λ (l : List ℕ). l ++ codes "\n") (marked ∙ ap (λ (l : List ℕ). codes "# " ++ l) is)
    ∙ append_assoc (codes "# ") (title_text config) (codes "\n")

-- ## The output

pub prints_more : (base : World) (input rest : Option (List ℕ)) (state : CoreState) (A : List Note → Type 0)
    (P Q : Extent → List Entry → Type 0) → ((extent : Extent) (xs : List Entry) → P extent xs → Q extent xs) →
    IsFollowed base input rest state (λ notes. A notes × TellsAll base notes P) →
    IsFollowed base input rest state (λ notes. A notes × TellsAll base notes Q)
prints_more base input rest state A P Q more h = record {
  script = h.script;
  read = h.read;
  notes = h.notes;
  are = h.are;
  run = h.run;
  follows = (h.follows.0, tells_weaker base h.notes P Q (more (extent_of (reverse h.notes))) h.follows.1);
}

-- The line of the answer about a given time is the output that `Prints` requires.
pub prints_answer : (asked : Question) (at : Option Date) (time : Date) (base : World)
    (input rest old new : Option (List ℕ)) (A : List Note → Type 0) (missing : Missing) (verdict : Verdict)
    (status : Status) → at ≡ Some time → WritesVerdict asked.style verdict old new → status ≡ status_for verdict →
    ((state : CoreState) × IsFollowed base input rest state (λ notes. A notes
    × TellsAll base notes (λ extent xs. verdict ≡ unless_missing verdicts.Unknown missing (verdict_at asked.query time extent xs)))) →
    (state : CoreState) × IsFollowed base input rest state
    (λ notes. A notes × TellsAll base notes (PrintsLines asked at old new missing status))
prints_answer asked at time base input rest old new A missing verdict status timed written is (state, h) = (
  state,
  prints_more base input rest state A
      (λ extent xs. verdict ≡ unless_missing verdicts.Unknown missing (verdict_at asked.query time extent xs))
      (PrintsLines asked at old new missing status)
      (λ (extent : Extent) (xs : List Entry)
      (e : verdict ≡ unless_missing verdicts.Unknown missing (verdict_at asked.query time extent xs)).
      subst (λ (t : Option Date). PrintsLines asked t old new missing status extent xs) (sym timed) (
        subst (λ (v : Verdict). WritesVerdict asked.style v old new) e written,
        is ∙ ap (λ (v : Verdict). status_for v) e,
      )) h,
)

-- The lines for the intervals and gaps are the output that `Prints` requires.
pub prints_report : (asked : Question) (at : Option Date) (base : World) (input rest old new : Option (List ℕ))
    (A : List Note → Type 0) (missing : Missing) (status : Status) (covered : Extent) → at ≡ None →
    status ≡ unless_missing Unknown missing Done → ((state : CoreState) × IsFollowed base input rest state (λ notes. A notes
    × TellsAll base notes (λ extent xs. WritesReport asked.style asked.query old new xs × (covered ≡ extent)))) →
    (state : CoreState) × IsFollowed base input rest state
    (λ notes. A notes × TellsAll base notes (PrintsLines asked at old new missing status))
prints_report asked at base input rest old new A missing status covered timed is (state, h) = (
  state,
  prints_more base input rest state A
      (λ extent xs. WritesReport asked.style asked.query old new xs × (covered ≡ extent))
      (PrintsLines asked at old new missing status)
      (λ (extent : Extent) (xs : List Entry) (h : WritesReport asked.style asked.query old new xs × (covered ≡ extent)).
      subst (λ (t : Option Date). PrintsLines asked t old new missing status extent xs) (sym timed) (h.0, is)) h,
)

-- If the beginning of a script was read and the rest was followed to its end, the output is about the whole script.
pub is_heard : (request : HeardRequest) (asked : Question) (start : Start) (old mid : Option (List ℕ)) (front : List ℕ)
    (held written : Option (List ℕ)) (Says : List ℕ → Type 0) (missing : Missing) (status : Status) →
    HasBegun start front old mid →
    Says (absences (script_name request.file request.later) request.query.talker request.query.listener missing) →
    ((base : World) × IsBeginningOf start base × (rest : Option (List ℕ)) × (state : CoreState)
    × IsFollowed base (option_append (Some front) mid) rest state
    (λ notes. AreMissing base (events_in notes) asked.query.talker asked.query.listener missing
    × TellsAll base notes (Prints asked.style.format asked.at request asked old held written missing status))) →
    IsHeard request asked old held written Says status
is_heard request asked start old mid front held written Says missing status begun says (base, begins, rest, state, h) =
    let checkpoint = checkpoint_of start in
    record {
      config = start.config;
      titled = is_titled start.config checkpoint front old mid begun;
      base = base;
      script = script_of checkpoint old mid;
      has_script = has_script start.config checkpoint front old mid base begun begins;
      rest = rest;
      state = state;
      prints = record {
        script = h.script;
        read = read_script start.config checkpoint front old mid rest h.script true begun h.read;
        notes = h.notes;
        are = h.are;
        run = h.run;
        follows = (missing, h.follows.0.0, h.follows.0.1, says, h.follows.1);
      };
    }

-- ## The files of a request

read_more : (text : Option (List ℕ)) (P Q : World → List Note → Type 0) →
    ((base : World) (notes : List Note) → P base notes → Q base notes) → IsRead text P → IsRead text Q
read_more text P Q more h = record {
  config = h.config;
  titled = h.titled;
  base = h.base;
  script = h.script;
  has_script = h.has_script;
  rest = h.rest;
  state = h.state;
  prints = record {
    script = h.prints.script;
    read = h.prints.read;
    notes = h.prints.notes;
    are = h.prints.are;
    run = h.prints.run;
    follows = more h.base h.prints.notes h.prints.follows;
  };
}

abbrev AnswersWith : HeardRequest → Question → (script old new : Option (List ℕ)) → (Says : List ℕ → Type 0) → Status
    → World → List Note → Type 0
AnswersWith request asked script old new Says status base notes = (missing : Missing)
    × IsMissing base (events_in notes) asked.query.talker missing.talker
    × IsMissing base (events_in notes) asked.query.listener missing.listener
    × Says (absences (script_name request.file request.later) request.query.talker request.query.listener missing)
    × TellsAll base notes (Prints asked.style.format asked.at request asked script old new missing status)

-- The claim about missing terminations can be weakened.
pub heard_more : (request : HeardRequest) (asked : Question) (script old new : Option (List ℕ))
    (Says More : List ℕ → Type 0) (status : Status) → ((text : List ℕ) → Says text → More text) →
    IsHeard request asked script old new Says status → IsHeard request asked script old new More status
heard_more request asked script old new Says More status more h =
    read_more script (AnswersWith request asked script old new Says status)
    (AnswersWith request asked script old new More status)
    (λ base notes (missing, talker, listener, says, tells). (missing, talker, listener, more _ says, tells)) h

-- An answer to the question that a request asks is an answer to the request.
pub heard_from : (request : HeardRequest) (asked : Question) (before after : Option (List HostCall))
    (script input old new : Option (List ℕ)) (Says More : List ℕ → Type 0) (status : Status) → IsAsked request asked →
    ReadsFiles request.file request.later before after input script → ((text : List ℕ) → Says text → More text) →
    UnlessFault (IsHeard request asked script old new Says status) status →
    UnlessFault (IsHeardFrom request before after input old new More status) status
heard_from request asked before after script input old new Says More status is from more (inl fault) = inl fault
heard_from request asked before after script input old new Says More status is from more (inr h) =
    inr (script, asked, from, is, heard_more request asked script old new Says More status more h)

-- An answer about the script of several files is an answer to the request.
pub heard_from_all : (request : HeardRequest) (asked : Question) (path : List ℕ) (before after : Option (List HostCall))
    (input old new : Option (List ℕ)) (Says More : List ℕ → Type 0) (status : Status) → IsAsked request asked →
    request.file ≡ Some path → request.later ≢ [] → ((text : List ℕ) → Says text → More text) →
    UnlessFault ((script : Option (List ℕ)) × ReadsAll (path ∷ request.later) before after script
    × IsHeard request asked script old new Says status) status →
    UnlessFault (IsHeardFrom request before after input old new More status) status
heard_from_all request asked path before after input old new Says More status is named some more (inl fault) = inl fault
heard_from_all request asked path before after input old new Says More status is named some more (inr (script, reads, h)) =
    heard_from request asked before after script input old new Says More status is
    (reads_files request.file request.later path before after input script named some reads) more (inr h)
