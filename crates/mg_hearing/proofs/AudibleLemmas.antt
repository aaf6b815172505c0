-- The output about a talker.
use Rattle.std.proofs.Common.{◌≡◌, ◌≢◌, ◌∙◌, ℕ, Bool, true, List, [], ◌∷◌, Option, Some, inl, inr}
use Rattle.std.specs.Fmt.{option_append}
use Rattle.std.specs.List.{list_any}
use Rattle.mg_core.specs.declared.state.CoreState.{CoreState}
use Rattle.mg_core.specs.Counting.{is_media}
use Rattle.mg_core.specs.Follow.{IsFollowed}
use Rattle.mg_core.specs.Note.{events_in}
use Rattle.mg_core.specs.World.{World}
use Rattle.mg_heard.specs.Reported.{WritesReport}
use Rattle.mg_host.specs.declared.host_call.HostCall.{HostCall}
use Rattle.mg_hearing.specs.Files.{ReadsAll, ReadsFiles}
use Rattle.mg_options.specs.Status.{UnlessFault}
use Rattle.mg_options.specs.declared.status.Status.{Status}
use Rattle.mg_options.specs.declared.status.Status.TheVariants.{Done}
use Rattle.mg_arguments.specs.declared.audible_request.AudibleRequest.{AudibleRequest}
use Rattle.mg_audible.specs.Told.{TellsAudible}
use Rattle.mg_hearing.specs.Audible.{IsAudible, IsAudibleFrom}
use Rattle.mg_hearing.specs.Heard.{IsAsked}
use Rattle.mg_hearing.specs.declared.question.Question.{Question}
use Rattle.mg_hearing.specs.aids.Beginning.{HasBegun, IsBeginningOf, checkpoint_of}
use Rattle.mg_hearing.specs.declared.start.Start.{Start}
use Rattle.mg_hearing.proofs.ReadLemmas.{reads_files}
use Rattle.mg_hearing.proofs.BeginningLemmas.{has_script, is_titled, read_script, script_of}

-- If the beginning of a script was read and the rest was followed to its end, the output is about the whole script.
pub is_audible : (talker : ℕ) (asked : Question) (start : Start) (old mid rest : Option (List ℕ)) (front : List ℕ)
    (base : World) (held written : Option (List ℕ)) (has_rtp : Bool) (silent : Type 0) (state : CoreState) →
    HasBegun start front old mid → IsBeginningOf start base → (has_rtp ≡ true → silent) →
    IsFollowed base (option_append (Some front) mid) rest state (λ notes. TellsAudible base talker notes
    (WritesReport asked.style asked.query held written)
    × (has_rtp ≡ list_any is_media (events_in notes))) → IsAudible talker asked old held written silent
is_audible talker asked start old mid rest front base held written has_rtp silent state begun begins quiet h =
    let checkpoint = checkpoint_of start in
    record {
      config = start.config;
      titled = is_titled start.config checkpoint front old mid begun;
      base = base;
      script = script_of checkpoint old mid;
      has_script = has_script start.config checkpoint front old mid base begun begins;
      rest = rest;
      state = state;
      prints = record {
        script = h.script;
        read = read_script start.config checkpoint front old mid rest h.script true begun h.read;
        notes = h.notes;
        are = h.are;
        run = h.run;
        follows = (h.follows.0, λ some. quiet (h.follows.1 ∙ some));
      };
    }

more_audible : (talker : ℕ) (asked : Question) (script old new : Option (List ℕ)) (silent quiet : Type 0) →
    (silent → quiet) → IsAudible talker asked script old new silent → IsAudible talker asked script old new quiet
more_audible talker asked script old new silent quiet more h = record {
  config = h.config;
  titled = h.titled;
  base = h.base;
  script = h.script;
  has_script = h.has_script;
  rest = h.rest;
  state = h.state;
  prints = record {
    script = h.prints.script;
    read = h.prints.read;
    notes = h.prints.notes;
    are = h.prints.are;
    run = h.prints.run;
    follows = (h.prints.follows.0, λ some. more (h.prints.follows.1 some));
  };
}

-- An answer to a request's question is an answer to the request.
pub audible_from : (request : AudibleRequest) (asked : Question) (before after : Option (List HostCall))
    (script input old new : Option (List ℕ)) (silent quiet : Type 0) (status : Status) → IsAsked request.heard asked →
    ReadsFiles request.heard.file request.heard.later before after input script → (silent → quiet) →
    UnlessFault ((status ≡ Done) × IsAudible request.talker asked script old new silent) status →
    UnlessFault ((status ≡ Done) × IsAudibleFrom request before after input old new quiet) status
audible_from request asked before after script input old new silent quiet status is from more (inl fault) = inl fault
audible_from request asked before after script input old new silent quiet status is from more (inr (done, a)) =
    inr (done, (script, asked, from, is, more_audible request.talker asked script old new silent quiet more a))

-- An answer about the script of several files is an answer to the request.
pub audible_from_all : (request : AudibleRequest) (asked : Question) (path : List ℕ)
    (before after : Option (List HostCall)) (input old new : Option (List ℕ)) (silent quiet : Type 0) (status : Status) →
    IsAsked request.heard asked → request.heard.file ≡ Some path → request.heard.later ≢ [] → (silent → quiet) →
    UnlessFault ((script : Option (List ℕ)) × ReadsAll (path ∷ request.heard.later) before after script
    × ((status ≡ Done) × IsAudible request.talker asked script old new silent)) status →
    UnlessFault ((status ≡ Done) × IsAudibleFrom request before after input old new quiet) status
audible_from_all request asked path before after input old new silent quiet status is named some more (inl fault) = inl fault
audible_from_all request asked path before after input old new silent quiet status is named some more (inr (script, reads, h)) =
    audible_from request asked before after script input old new silent quiet status is
    (reads_files request.heard.file request.heard.later path before after input script named some reads) more (inr h)
