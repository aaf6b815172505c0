-- Properties that the functions that start a gateway pass on to each other.
use Rattle.std.specs.Prelude.{◌≡◌, ◌≢◌, ◌++◌, ℕ, false, List, [], codes, Option, Some, None, Result, Ok, Err, IfSome, Bool, ◌||◌, nat_eq}
use Rattle.std.specs.List.{starts_with}
use Rattle.std.specs.Io.KnownBytes.{Consumes, append_known}
use Rattle.mg_dates.specs.declared.timeline.Timeline.{Timeline}
use Rattle.mg_dates.specs.Times.{missed_since}
use Rattle.mg_host.specs.HostCalls.{Grows}
use Rattle.mg_engine.specs.declared.config.Config.{Config}
use Rattle.mg_core.specs.declared.state.CoreState.{CoreState}
use Rattle.mg_checkpoint.specs.Checkpoint.{checkpoint_text, without_speech}
use Rattle.mg_core.specs.Base.{IsBase}
use Rattle.mg_core.specs.World.{World, world_after_ticks}
use Rattle.mg_core.specs.aids.Stands.{StandsFor}
use Rattle.mg_journal.specs.Journal.{JournalState}
use Rattle.mg_host.specs.declared.host_call.HostCall.{HostCall}
use Rattle.mg_service.specs.Script.{HasScript}
use Rattle.mg_service.specs.Title.{title_line}
use Rattle.mg_start.specs.Journal.{RunsNoSession, Writes, start_lines, timeline_after}
use Rattle.mg_start.specs.Start.{HasStarted, ResumesIn}

-- A journal has a timeline if and only if it has lines, and the timeline is that of the dates in its script. What is not
-- known is not stated.
abbrev pub KeepsTimes : Option Timeline → (found script : Option (List ℕ)) → Type 0
KeepsTimes None found script = IfSome found (λ text. text ≡ []) × IfSome script (λ text. text ≡ [])
KeepsTimes (Some timeline) found script =
    IfSome found (λ text. text ≢ []) × IfSome script (λ text. timeline ≡ timeline_after text)

-- The number of ticks that a timeline has missed at this date, or 0 without a timeline or a date.
abbrev pub missed_by : Option Timeline → (millis : Option ℕ) → ℕ
missed_by None millis = 0
missed_by (Some timeline) None = 0
missed_by (Some timeline) (Some millis) = missed_since timeline (record { millis = millis })

-- Whether `text` is the beginning of a title, or begins like a title.
abbrev pub may_be_title : List ℕ → Bool
may_be_title text =
    let start = codes "# mg_bridge replay " in
    starts_with nat_eq text start || starts_with nat_eq start text

-- The title with which a new journal begins. A journal that has a timeline isn't new.
abbrev pub title_before : Option Timeline → Config → List ℕ
title_before None config = title_line config
title_before (Some timeline) config = []

-- These lines were appended to a journal.
abbrev pub HasWritten : (old new : Option (List HostCall)) → (lines : List ℕ) → Type 0
HasWritten old new lines = (calls : List HostCall) × Grows old new calls × Writes calls lines

-- These lines were appended to a journal. Or this failed, perhaps after some of the lines, and no session ran.
abbrev pub Logs : {A E : Type 0} → (old new : Option (List HostCall)) → (lines : List ℕ) → Result A E
    → Type 0
Logs old new lines (Ok done) = HasWritten old new lines
Logs old new lines (Err fault) = RunsNoSession old new

-- This many ticks have passed in each world that a core represents.
abbrev pub PassesTicks : ℕ → CoreState → CoreState → Type 0
PassesTicks ticks old new =
    (w : World) → StandsFor old w → StandsFor new (world_after_ticks ticks w)

-- The journal works. If its text is known, it consists of the text that was found, the title if the journal is new, and
-- the lines that are appended before a gateway starts.
pub record HasBegun (title : List ℕ) (ticks : ℕ) (fence : Option ℕ) (found : Option (List ℕ))
    (journal : JournalState) : Type 0 where
  pub works : journal.is_broken ≡ false
  pub text : journal.text ≡ append_known (append_known found title) (start_lines ticks fence)

-- A core represents a world in which the gateway is resumed, and `reached` is the number that its messages have
-- reached. The journal has this timeline.
pub record CanResume (text : Option (List ℕ)) (timeline : Option Timeline) (config : Config)
    (state : CoreState) (reached : ℕ) : Type 0 where
  pub base : World
  pub script : Option (List ℕ)
  pub has_script : HasScript text config base script
  pub times : KeepsTimes timeline text script
  pub world : World
  pub stands : StandsFor state world
  pub resumes : ResumesIn script base world reached

-- A gateway with this configuration was restored: its title and a checkpoint were read. Its state represents the base
-- with this checkpoint, in which no RTP datagram has arrived.
pub record IsRestored (config : Config) (old new : Option (List ℕ)) (state : CoreState)
    : Type 0 where
  pub base : World
  pub is_base : IsBase base
  pub config_is : base.gateway.config ≡ config
  pub quiet : without_speech base ≡ base
  pub read : Consumes old new (title_line config ++ checkpoint_text base)
  pub stands : StandsFor state base

-- A core represents the world in which a gateway starts, and `reached` is the number that the journal has reached.
pub record CanStart (journal text : Option (List ℕ)) (fence : Option ℕ) (config : Config)
    (state : CoreState) (reached : ℕ) (before : JournalState) (bound begun : Option (List HostCall))
    : Type 0 where
  pub world : World
  pub stands : StandsFor state world
  pub started : HasStarted journal text fence config world reached before bound begun
