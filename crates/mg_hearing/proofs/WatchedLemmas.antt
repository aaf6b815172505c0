-- The output about rules.
use Rattle.std.proofs.Common.{◌≡◌, ◌≢◌, ◌∷◌, ◌++◌, List, ℕ, [], Option, Some, inl, inr, is_some, if◌then◌else◌}
use Rattle.std.specs.Fmt.{option_append}
use Rattle.mg_core.specs.World.{World}
use Rattle.mg_heard.specs.declared.missing.Missing.{Missing}
use Rattle.mg_heard.specs.declared.violation.Violation.{Violation}
use Rattle.mg_heard.specs.Never.{IsWatched, WritesViolation}
use Rattle.mg_host.specs.declared.host_call.HostCall.{HostCall}
use Rattle.mg_hearing.specs.Files.{ReadsAll, ReadsFiles}
use Rattle.mg_options.specs.Status.{UnlessFault}
use Rattle.mg_options.specs.declared.status.Status.{Status}
use Rattle.mg_arguments.specs.declared.watch_request.WatchRequest.{WatchRequest}
use Rattle.mg_hearing.specs.declared.alarm.Alarm.{Alarm}
use Rattle.mg_hearing.specs.Watched.{IsAnswered, IsAnsweredFrom, IsSet, status_for}
use Rattle.mg_hearing.specs.aids.Absences.{all_absences}
use Rattle.mg_hearing.specs.Page.{script_name}
use Rattle.mg_hearing.specs.aids.Beginning.{HasBegun, IsBeginningOf, checkpoint_of}
use Rattle.mg_hearing.specs.declared.start.Start.{Start}
use Rattle.mg_hearing.proofs.ReadLemmas.{reads_files}
use Rattle.mg_hearing.proofs.BeginningLemmas.{has_script, is_titled, read_script, script_of}

-- If the beginning of a script was read and the rest was watched, the whole script was watched.
pub is_answered : (request : WatchRequest) (alarm : Alarm) (start : Start) (old mid rest : Option (List ℕ))
    (front : List ℕ) (base : World) (held written : Option (List ℕ)) (found : Option Violation) (missing : List Missing)
    (Says : List ℕ → Type 0) (status : Status) → HasBegun start front old mid → IsBeginningOf start base →
    IsWatched alarm.rules.items base (option_append (Some front) mid) rest found missing →
    WritesViolation alarm.style found held written → status ≡ status_for found →
    Says (if is_some found then [] else all_absences (script_name request.file request.later) request.rules missing) →
    IsAnswered request alarm old held written Says status
is_answered request alarm start old mid rest front base held written found missing Says status begun begins h line status_is says =
    let checkpoint = checkpoint_of start in
    record {
      config = start.config;
      titled = is_titled start.config checkpoint front old mid begun;
      base = base;
      script = script_of checkpoint old mid;
      has_script = has_script start.config checkpoint front old mid base begun begins;
      rest = rest;
      found = found;
      missing = missing;
      watched = record {
        front = h.front;
        piece = h.piece;
        size = h.size;
        prompt = h.prompt;
        ended = h.ended;
        read = read_script start.config checkpoint front old mid rest (h.front ++ h.piece) h.ended begun h.read;
        notes = h.notes;
        are = h.are;
        moments = h.moments;
        are_moments = h.are_moments;
        first = h.first;
        missing_are = h.missing_are;
        before_tick = h.before_tick;
      };
      written = line;
      status_is = status_is;
      says = says;
    }

-- An answer for the alarm that a request sets is an answer to the request.
pub answered_from : (request : WatchRequest) (alarm : Alarm) (before after : Option (List HostCall))
    (script input old new : Option (List ℕ)) (Says More : List ℕ → Type 0) (status : Status) → IsSet request alarm →
    ReadsFiles request.file request.later before after input script → ((text : List ℕ) → Says text → More text) →
    UnlessFault (IsAnswered request alarm script old new Says status) status →
    UnlessFault (IsAnsweredFrom request before after input old new More status) status
answered_from request alarm before after script input old new Says More status set from more (inl fault) = inl fault
answered_from request alarm before after script input old new Says More status set from more (inr a) = inr (
  script,
  alarm,
  from,
  set,
  record {
    config = a.config;
    titled = a.titled;
    base = a.base;
    script = a.script;
    has_script = a.has_script;
    rest = a.rest;
    found = a.found;
    missing = a.missing;
    watched = a.watched;
    written = a.written;
    status_is = a.status_is;
    says = more (if is_some a.found then [] else all_absences (script_name request.file request.later) request.rules a.missing) a.says;
  },
)

-- An answer about the script of several files is an answer to the request.
pub answered_from_all : (request : WatchRequest) (alarm : Alarm) (path : List ℕ) (before after : Option (List HostCall))
    (input old new : Option (List ℕ)) (Says More : List ℕ → Type 0) (status : Status) → IsSet request alarm →
    request.file ≡ Some path → request.later ≢ [] → ((text : List ℕ) → Says text → More text) →
    UnlessFault ((script : Option (List ℕ)) × ReadsAll (path ∷ request.later) before after script
    × IsAnswered request alarm script old new Says status) status →
    UnlessFault (IsAnsweredFrom request before after input old new More status) status
answered_from_all request alarm path before after input old new Says More status set named some more (inl fault) = inl fault
answered_from_all request alarm path before after input old new Says More status set named some more (inr (script, reads, h)) =
    answered_from request alarm before after script input old new Says More status set
    (reads_files request.file request.later path before after input script named some reads) more (inr h)
