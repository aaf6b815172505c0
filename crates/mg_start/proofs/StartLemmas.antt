-- The steps of a start: finding the journal, choosing the configuration, and starting.
use Rattle.std.proofs.Common.{◌≡◌, ◌≢◌, inl, inr, ℕ, Bool, zero, suc, ◌<◌, ◌==◌, false, true, length, take, drop, slice_index, arith, List, [], ◌∷◌, ◌++◌, codes, Option, Some, None, refl, sym, ap, subst, ◌∙◌, append_assoc, append-nil, IfSome, MatchOption, Bor}
use Rattle.std.specs.Prelude.{reverse, unwrap_or}
use Rattle.std.specs.Option.{option_map}
use Rattle.std.proofs.lemmas.Bool.{eqb-true}
use Rattle.std.proofs.Math.Seq.{take-append_seam}
use Rattle.std.proofs.lemmas.List.Elements.{All-nil}
use Rattle.std.specs.Io.{StartsWith}
use Rattle.std.specs.Io.KnownBytes.{Consumes}
use Rattle.mg_chain.specs.Seals.{seals_of}
use Rattle.mg_core.specs.declared.state.CoreState.{CoreState}
use Rattle.mg_core.specs.aids.Resume.{IsResumed}
use Rattle.mg_core.specs.Follow.{IsFollowed}
use Rattle.mg_core.specs.Note.{Note, notes_of}
use Rattle.mg_core.specs.Run.{HasRead}
use Rattle.mg_core.specs.Script.{events_of}
use Rattle.mg_core.specs.World.{World, start_of, world_after_ticks}
use Rattle.mg_core.specs.Recording.{IsRecorded}
use Rattle.mg_core.specs.aids.Stands.{StandsFor}
use Rattle.mg_core.proofs.CountReadBack.{script_same}
use Rattle.mg_core.proofs.RecordingLemmas.{recordings_are_read}
use Rattle.mg_core.specs.declared.event.Event.{Event}
use Rattle.mg_dates.specs.declared.timeline.Timeline.{Timeline}
use Rattle.mg_dates.specs.Times.{missed_since, timeline_of}
use Rattle.mg_engine.specs.declared.config.Config.{Config}
use Rattle.mg_lines.specs.Lines.{lines_after, lines_of}
use Rattle.mg_core.specs.Counted.{expanded, journal_lines}
use Rattle.mg_fence.specs.Reached.{Reaches}
use Rattle.mg_journal.specs.Journal.{JournalState}
use Rattle.mg_journal.specs.JournalFile.{FileState}
use Rattle.mg_journal.specs.aids.Opened.{text_in}
use Rattle.mg_journal.specs.Text.{whole_lines}
use Rattle.mg_host.specs.declared.host_call.HostCall.{HostCall}
use Rattle.mg_host.specs.declared.host_call.HostCall.TheVariants.{ReadDate}
use Rattle.mg_host.specs.HostCalls.{Grows, IsLogged}
use Rattle.mg_service.specs.declared.config_options.ConfigOptions.{ConfigOptions}
use Rattle.mg_service.specs.ConfigOptions.{IsDrawn, config_or}
use Rattle.mg_service.specs.Title.{title_line, title_text}
use Rattle.mg_start.specs.Journal.{missed_after, start_lines, timeline_after}
use Rattle.mg_start.specs.aids.Starting.{HasBegun, HasWritten, KeepsTimes, PassesTicks, missed_by, title_before, CanResume, CanStart}
use Rattle.mg_service.specs.Script.{HasScript}
use Rattle.mg_start.specs.Start.{IsChosen, started_text}
use Rattle.mg_start.proofs.LogLemmas.{grows_both}

-- If the bytes of a file are logged, its complete lines are the logged text.
pub found_lines : (calls : Option (List HostCall)) (file : FileState) (bytes : List ℕ) → IsLogged calls file.bytes bytes
    → IsLogged calls (text_in file) (whole_lines bytes)
found_lines None file bytes logged = tt
found_lines (Some all) file bytes logged = ap (λ (known : Option (List ℕ)). option_map whole_lines known) logged

-- For an empty journal, a configuration with drawn numbers is a valid choice.
pub drawn_chosen : (text : Option (List ℕ)) (draws : Bool) (given : ConfigOptions) (config chosen : Config)
    → IfSome text (λ t. t ≡ []) → IsDrawn draws given config chosen → IsChosen text draws given config chosen
drawn_chosen None draws given config chosen empty drawn = inl drawn
drawn_chosen (Some []) draws given config chosen empty drawn = drawn
drawn_chosen (Some (byte ∷ text)) draws given config chosen empty drawn = absurd cc

-- For a journal with lines and without an invalid seal, the configuration in its title is a valid choice if it agrees
-- with the given options.
pub agreed_chosen : (text : Option (List ℕ)) (draws : Bool) (given : ConfigOptions) (config chosen : Config)
    → IfSome text (λ t. t ≢ []) → config_or given chosen ≡ chosen → IfSome text (λ t. StartsWith t (title_line chosen))
    → IfSome text (λ t. (seals_of t).wrong ≡ None) → IsChosen text draws given config chosen
agreed_chosen None draws given config chosen lines agrees titled sealed = inr agrees
agreed_chosen (Some []) draws given config chosen lines agrees titled sealed = absurd (lines refl)
agreed_chosen (Some (byte ∷ text)) draws given config chosen lines agrees titled sealed = (agrees, titled, sealed)

-- If a known text was read to its end, the script is the whole text.
read_whole : (text script : List ℕ) (rest : Option (List ℕ)) → HasRead (Some text) rest script true → text ≡ script
read_whole text script None read = absurd read.consumed
read_whole text script (Some left) read =
    read.consumed ∙ ap (λ (l : List ℕ). script ++ l) (read.at_end refl) ∙ append-nil script

known_events : (input rest : Option (List ℕ)) (script : List ℕ) (events : List Event) → HasRead input rest script true
    → events_of (journal_lines true script) ≡ Some events
    → IfSome input (λ lines. events_of (journal_lines true lines) ≡ Some events)
known_events None rest script events read are = tt
known_events (Some text) rest script events read are =
    ap (λ (l : List ℕ). events_of (journal_lines true l)) (read_whole text script rest read) ∙ are

-- A script has reached this number.
abbrev HasReached : (input : Option (List ℕ)) → (reached : ℕ) → Type 0
HasReached input reached = IfSome input (λ lines.
    (notes : List Note) × (notes_of (journal_lines true lines) ≡ Some notes) × Reaches 0 notes reached)

known_notes : (input rest : Option (List ℕ)) (script : List ℕ) (notes : List Note) (reached : ℕ)
    → HasRead input rest script true → notes_of (journal_lines true script) ≡ Some notes → Reaches 0 notes reached
    → HasReached input reached
known_notes None rest script notes reached read are reaches = tt
known_notes (Some text) rest script notes reached read are reaches =
    (notes, ap (λ (l : List ℕ). notes_of (journal_lines true l)) (read_whole text script rest read) ∙ are, reaches)

both_known : (input : Option (List ℕ)) (events : List Event) (reached : ℕ)
    → IfSome input (λ lines. events_of (journal_lines true lines) ≡ Some events) → HasReached input reached
    → IfSome input (λ lines. (events_of (journal_lines true lines) ≡ Some events)
    × ((notes : List Note) × (notes_of (journal_lines true lines) ≡ Some notes) × Reaches 0 notes reached))
both_known None events reached are reaches = tt
both_known (Some text) events reached are reaches = (are, reaches)

known_times : (input rest : Option (List ℕ)) (script : List ℕ) (notes : List Note) (timeline : Timeline)
    → HasRead input rest script true → notes_of (journal_lines true script) ≡ Some notes
    → timeline ≡ timeline_of (reverse notes) → IfSome input (λ found. timeline ≡ timeline_after found)
known_times None rest script notes timeline read are is = tt
known_times (Some text) rest script notes timeline read are is =
    is ∙ sym (ap (λ (n : Option (List Note)). timeline_of (reverse (unwrap_or n [])))
    (ap (λ (l : List ℕ). notes_of (journal_lines true l)) (read_whole text script rest read) ∙ are))

-- A journal's script was run and followed to its end, so a gateway can resume.
pub resumes_from : (text input rest : Option (List ℕ)) (config : Config) (base : World) (state : CoreState)
    (timeline : Timeline) (reached : ℕ)
    → IfSome text (λ t. t ≢ []) → HasScript text config base input → IsResumed base input rest state
    → IsFollowed base input rest state (λ notes. (timeline ≡ timeline_of (reverse notes)) × Reaches 0 notes reached)
    → CanResume text (Some timeline) config state reached
resumes_from text input rest config base state timeline reached lines has r f = record {
  base = base;
  script = input;
  has_script = has;
  times = (lines, known_times input rest f.script f.notes timeline f.read f.are f.follows.0);
  world = r.world;
  stands = r.history.1;
  resumes = (
    r.events,
    r.sent,
    r.history.0,
    both_known input r.events reached (known_events input rest r.script r.events r.read r.are)
        (known_notes input rest f.script f.notes reached f.read f.are f.follows.1),
  );
}

-- A journal without text has no events.
no_events : events_of (journal_lines true []) ≡ Some []
no_events = script_same false (lines_of true []) [] (recordings_are_read [] (All-nil IsRecorded))

-- A journal without text reaches the number 0.
reaches_nothing : (reached : ℕ) → reached ≡ 0
    → (notes : List Note) × (notes_of (journal_lines true []) ≡ Some notes) × Reaches 0 notes reached
unfolding lines_after expanded notes_of
reaches_nothing reached none = ([], refl, none)

nothing_known : (text : Option (List ℕ)) (reached : ℕ) → IfSome text (λ t. t ≡ []) → reached ≡ 0
    → IfSome text (λ lines. (events_of (journal_lines true lines) ≡ Some [])
    × ((notes : List Note) × (notes_of (journal_lines true lines) ≡ Some notes) × Reaches 0 notes reached))
nothing_known None reached empty none = tt
nothing_known (Some text) reached empty none =
    subst (λ (l : List ℕ). (events_of (journal_lines true l) ≡ Some [])
    × ((notes : List Note) × (notes_of (journal_lines true l) ≡ Some notes) × Reaches 0 notes reached))
    (sym empty) (no_events, reaches_nothing reached none)

-- A new gateway resumes from an empty journal.
pub resumes_anew : (text : Option (List ℕ)) (timeline : Option Timeline) (config : Config) (state : CoreState)
    (reached : ℕ) → IfSome text (λ t. t ≡ []) → timeline ≡ None → StandsFor state (start_of config) → reached ≡ 0
    → CanResume text timeline config state reached
resumes_anew text timeline config state reached empty new stands none =
    subst (λ (t : Option Timeline). CanResume text t config state reached) (sym new) (record {
      base = start_of config;
      script = text;
      has_script = inl (refl, refl);
      times = (empty, empty);
      world = start_of config;
      stands = stands;
      resumes = ([], [], (refl, refl), nothing_known text reached empty none);
    })

-- After the title (if the journal is new) and the lines for the start were appended, the journal's text is
-- `started_text`.
writes : (timeline : Option Timeline) (config : Config) (missed : ℕ) (fence : Option ℕ) (text : Option (List ℕ))
    (script : Option (List ℕ)) (journal : JournalState)
    → KeepsTimes timeline text script → HasBegun (title_before timeline config) missed fence text journal
    → journal.text ≡ option_map (started_text config missed fence) text
writes None config missed fence None script journal keeps begins = begins.text
writes None config missed fence (Some []) script journal keeps begins = begins.text
writes None config missed fence (Some (byte ∷ text)) script journal (empty, none) begins = absurd cc
writes (Some timeline) config missed fence None script journal keeps begins = begins.text
writes (Some timeline) config missed fence (Some []) script journal keeps begins = absurd (keeps.0 refl)
writes (Some timeline) config missed fence (Some (byte ∷ text)) script journal keeps begins =
    begins.text ∙ ap (λ (l : List ℕ). Some (l ++ start_lines missed fence)) (append-nil (byte ∷ text))

-- ## Missed ticks

-- The timeline of a new journal is the timeline after no notes.
pub new_times : record { start = None; ticks = 0 } ≡ timeline_of (reverse [])
unfolding timeline_of
new_times = refl

-- If the journal is empty, no ticks were missed.
none_missed : (millis : Option ℕ) → 0 ≡ missed_after [] millis
unfolding lines_after expanded notes_of timeline_of
none_missed None = refl
none_missed (Some millis) = refl

times_missed : (timeline : Timeline) (text : List ℕ) (millis : Option ℕ) → timeline ≡ timeline_after text
    → missed_by (Some timeline) millis ≡ missed_after text millis
times_missed timeline text None is = refl
times_missed timeline text (Some millis) is =
    ap (λ (t : Timeline). missed_since t (record { millis = millis })) is

-- The number of missed ticks agrees with the script of the journal.
ticks_missed : (timeline : Option Timeline) (missed : ℕ) (millis : Option ℕ) (found script : Option (List ℕ))
    → missed ≡ missed_by timeline millis → KeepsTimes timeline found script
    → IfSome script (λ since. missed ≡ missed_after since millis)
ticks_missed timeline missed millis found None is keeps = tt
ticks_missed None missed millis found (Some text) is keeps =
    is ∙ none_missed millis ∙ ap (λ (l : List ℕ). missed_after l millis) (sym keeps.1)
ticks_missed (Some timeline) missed millis found (Some text) is keeps = is ∙ times_missed timeline text millis keeps.1

-- The appended lines agree with the text of the journal.
lines_begun : (timeline : Option Timeline) (config : Config) (missed : ℕ) (fence : Option ℕ)
    (text script : Option (List ℕ)) → KeepsTimes timeline text script
    → IfSome text (λ found. started_text config missed fence found
    ≡ found ++ (title_before timeline config ++ start_lines missed fence))
lines_begun timeline config missed fence None script keeps = tt
lines_begun None config missed fence (Some []) script keeps = refl
lines_begun None config missed fence (Some (byte ∷ text)) script (empty, none) = absurd cc
lines_begun (Some timeline) config missed fence (Some []) script keeps = absurd (keeps.0 refl)
lines_begun (Some timeline) config missed fence (Some (byte ∷ text)) script keeps = refl

pub starts_from : (path : List ℕ) (text : Option (List ℕ)) (config : Config) (old new : CoreState)
    (timeline : Option Timeline) (missed : ℕ) (fence millis : Option ℕ) (reached : ℕ) (journal : JournalState)
    (bound read begun : Option (List HostCall)) → CanResume text timeline config old reached
    → missed ≡ missed_by timeline millis → Grows bound read (ReadDate millis ∷ []) → PassesTicks missed old new
    → HasBegun (title_before timeline config) missed fence text journal
    → HasWritten read begun (title_before timeline config ++ start_lines missed fence)
    → CanStart (Some path) text fence config new reached journal bound begun
starts_from path text config old new timeline missed fence millis reached journal bound read begun can is grows passes begins (calls, more, written) = record {
  world = world_after_ticks missed can.world;
  stands = passes can.world can.stands;
  started = record {
    base = can.base;
    script = can.script;
    has_script = can.has_script;
    missed = missed;
    resumed = can.world;
    resumes = can.resumes;
    starts = refl;
    works = λ some. begins.works;
    writes = λ some. writes timeline config missed fence text can.script journal can.times begins;
    begins = (
      millis,
      calls,
      title_before timeline config ++ start_lines missed fence,
      grows_both bound read begun (ReadDate millis ∷ []) calls grows more,
      written,
      ticks_missed timeline missed millis text can.script is can.times,
      lines_begun timeline config missed fence text can.script can.times,
    );
  };
}

-- A gateway without a journal can start if it can resume.
pub starts_anew : (text : Option (List ℕ)) (timeline : Option Timeline) (fence : Option ℕ) (config : Config)
    (state : CoreState) (reached : ℕ) (journal : JournalState) (calls : Option (List HostCall))
    → CanResume text timeline config state reached
    → CanStart None text fence config state reached journal calls calls
starts_anew text timeline fence config state reached journal calls can = record {
  world = can.world;
  stands = can.stands;
  started = record {
    base = can.base;
    script = can.script;
    has_script = can.has_script;
    missed = 0;
    resumed = can.world;
    resumes = can.resumes;
    starts = refl;
    works = λ some. absurd cc;
    writes = λ some. absurd cc;
    begins = (refl, refl);
  };
}

at_byte : (text : List ℕ) (k : ℕ) → k < length text → (slice_index text k == 10) ≡ true
    → text ≡ take k text ++ 10 ∷ drop (suc k) text
at_byte [] k within is = absurd (omega (arith, within))
at_byte (byte ∷ text) zero within is = ap (λ (b : ℕ). b ∷ text) (eqb-true byte 10 is)
at_byte (byte ∷ text) (suc k) within is = ap (λ (l : List ℕ). byte ∷ l) (at_byte text k (omega (arith, within)) is)

-- If the first line of a text begins with `# `, the text consists of this line and a rest.
first_line : (text title : List ℕ) (k : ℕ) → k < length text → (slice_index text k == 10) ≡ true
    → take k text ≡ codes "# " ++ title
    → (rest : List ℕ) × (text ≡ (codes "# " ++ (title ++ codes "\n")) ++ rest)
first_line text title k within is marked = (
  drop (suc k) text,
  at_byte text k within is ∙ ap (λ (l : List ℕ). l ++ 10 ∷ drop (suc k) text) marked
      ∙ ap (λ (l : List ℕ). codes "# " ++ l) (sym (append_assoc title (codes "\n") (drop (suc k) text))),
)

pub marked_line : (text : List ℕ) (k : ℕ) (found : Option (Bor (List ℕ))) → k < length text
    → (slice_index text k == 10) ≡ true
    → MatchOption found ((rest : List ℕ) → take k text ≢ codes "# " ++ rest) (λ title. take k text ≡ codes "# " ++ title.now)
    → IfSome found (λ title. (rest : List ℕ) × (text ≡ (codes "# " ++ (title.now ++ codes "\n")) ++ rest))
marked_line text k None within is cases = tt
marked_line text k (Some title) within is cases = first_line text title.now k within is cases

-- If the first line of the text that was read states a title, the text starts with the title line of the configuration.
pub title_found : (text rest : Option (List ℕ)) (front title more : List ℕ) (config : Config) → Consumes text rest front
    → front ≡ (codes "# " ++ (title ++ codes "\n")) ++ more → title ≡ title_text config
    → IfSome text (λ t. StartsWith t (title_line config))
title_found None rest front title more config consumed line is = tt
title_found (Some text) None front title more config consumed line is = absurd consumed
title_found (Some text) (Some left) front title more config consumed line is =
    let whole : text ≡ title_line config ++ (more ++ left) = consumed ∙ ap (λ (l : List ℕ). l ++ left)
    (line ∙ ap (λ (l : List ℕ). (codes "# " ++ (l ++ codes "\n")) ++ more) is)
    ∙ append_assoc (title_line config) more left in
    subst (λ (l : List ℕ). StartsWith l (title_line config)) (sym whole)
    (take-append_seam (title_line config) (more ++ left))
