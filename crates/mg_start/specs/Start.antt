-- How a gateway starts: with a new core, or from its journal.
use Rattle.std.specs.Prelude.{◌≡◌, ◌⊎◌, ℕ, Bool, List, [], ◌∷◌, ◌++◌, Option, Some, None, IfSome, IsSome}
use Rattle.std.specs.Prelude.{true, false}
use Rattle.std.specs.Option.{option_map}
use Rattle.std.specs.Io.{StartsWith}
use Rattle.mg_chain.specs.Seals.{seals_of}
use Rattle.mg_engine.specs.declared.config.Config.{Config}
use Rattle.mg_engine.specs.Config.{IsValidConfig}
use Rattle.mg_core.specs.Counted.{journal_lines}
use Rattle.mg_core.specs.declared.event.Event.{Event}
use Rattle.mg_core.specs.Note.{Note, notes_of}
use Rattle.mg_core.specs.Script.{events_of}
use Rattle.mg_core.specs.Step.{Sent, Run}
use Rattle.mg_core.specs.World.{World, world_after_ticks}
use Rattle.mg_fence.specs.Reached.{Reaches}
use Rattle.mg_journal.specs.Journal.{JournalState}
use Rattle.mg_journal.specs.Text.{whole_lines}
use Rattle.mg_host.specs.declared.host_call.HostCall.{HostCall}
use Rattle.mg_host.specs.declared.host_call.HostCall.TheVariants.{OpenJournal, ReadDate}
use Rattle.mg_host.specs.HostCalls.{Grows, IsLogged}
use Rattle.mg_options.specs.declared.status.Status.{Status}
use Rattle.mg_options.specs.declared.status.Status.TheVariants.{Usage, Failed, NoMemory}
use Rattle.mg_options.specs.declared.status.Status.TheVariants.{NoPort, BadJournal}
use Rattle.mg_service.specs.declared.config_options.ConfigOptions.{ConfigOptions}
use Rattle.mg_service.specs.ConfigOptions.{IsDrawn, config_or}
use Rattle.mg_service.specs.Script.{HasScript}
use Rattle.mg_service.specs.Title.{title_line}
use Rattle.mg_start.specs.Journal.{Writes, missed_after, start_lines}

-- The exit status of a run that didn't start. It is `Usage` only if the configuration isn't valid, and `NoPort` only if
-- the configuration is valid.
abbrev pub FailsToStart : Config → Status → Type 0
FailsToStart config Usage = IsValidConfig config → ⊥
FailsToStart config NoPort = IsValidConfig config
FailsToStart config NoMemory = Unit {0}
FailsToStart config Failed = Unit {0}
FailsToStart config BadJournal = Unit {0}
FailsToStart config status = ⊥

-- The only call on the host opened the file of the journal, or failed to open it. Without a journal, there was no call.
abbrev pub Opens : (journal : Option (List ℕ)) → (old new : Option (List HostCall)) → Type 0
Opens None old new = new ≡ old
Opens (Some path) old new = (bytes : Option (List ℕ)) × Grows old new (OpenJournal path bytes ∷ [])

-- The only call on the host opened the file of the journal. If the host logs its calls, `text` is the complete lines in
-- that file. Without a journal, there was no call, and `text` is empty.
abbrev pub Finds : (journal : Option (List ℕ)) → (old new : Option (List HostCall))
    → (text : Option (List ℕ)) → Type 0
Finds None old new text = (new ≡ old) × (text ≡ Some [])
Finds (Some path) old new text =
    (bytes : List ℕ) × Grows old new (OpenJournal path (Some bytes) ∷ [])
    × IsLogged new text (whole_lines bytes)

-- A gateway's configuration, given the configuration that the options specify. If the journal is empty, numbers may be
-- drawn. If it isn't, the journal's title states the configuration, which agrees with the given options, and no seal in
-- the journal is invalid. If the journal's text isn't known, numbers may be drawn, or the configuration agrees with the
-- given options.
abbrev pub IsChosen : (text : Option (List ℕ)) → (draws : Bool) → ConfigOptions
    → (config chosen : Config) → Type 0
IsChosen None draws given config chosen =
    IsDrawn draws given config chosen ⊎ (config_or given chosen ≡ chosen)
IsChosen (Some []) draws given config chosen = IsDrawn draws given config chosen
IsChosen (Some (byte ∷ text)) draws given config chosen =
    (config_or given chosen ≡ chosen) × StartsWith (byte ∷ text) (title_line chosen)
    × ((seals_of (byte ∷ text)).wrong ≡ None)

-- The world in which a gateway that began in the world `base` is resumed, and the number that its messages have
-- reached. If the journal's script is known, exactly its events have happened in this world, and its notes reach this
-- number.
abbrev pub ResumesIn : (script : Option (List ℕ)) → (base w : World) → (reached : ℕ) → Type 0
ResumesIn script base w reached =
    (events : List Event) × (sent : List Sent) × Run base events sent w
    × IfSome script (λ lines. (events_of (journal_lines true lines) ≡ Some events)
    × ((notes : List Note) × (notes_of (journal_lines true lines) ≡ Some notes) × Reaches 0 notes reached))

-- The text of the journal when a gateway starts. First comes the text that was found or, for a new journal, the title
-- of the gateway's configuration. Then come the lines that are appended before a gateway starts.
abbrev pub started_text : Config → (missed : ℕ) → (fence : Option ℕ) → (found : List ℕ) → List ℕ
started_text config missed fence [] = title_line config ++ start_lines missed fence
started_text config missed fence (byte ∷ found) = (byte ∷ found) ++ start_lines missed fence

-- The calls on the host before a gateway starts. If there is a journal, the date is read, and lines are appended to the
-- journal. If the journal's text and its script are known, these lines depend only on the text, the dates in the script,
-- the date, the configuration and the fence. Without a journal, there are no calls, and no ticks were missed.
abbrev pub Begins : (journal text script : Option (List ℕ)) → Config → (missed : ℕ)
    → (fence : Option ℕ) → (old new : Option (List HostCall)) → Type 0
Begins None text script config missed fence old new = (new ≡ old) × (missed ≡ 0)
Begins (Some path) text script config missed fence old new =
    (millis : Option ℕ) × (calls : List HostCall) × (lines : List ℕ)
    × Grows old new (ReadDate millis ∷ calls) × Writes calls lines
    × IfSome script (λ since. missed ≡ missed_after since millis)
    × IfSome text (λ found. started_text config missed fence found ≡ found ++ lines)

-- A gateway has started in the world `start`: it was resumed from its journal, if it has one, and has run the missed
-- ticks. `reached` is the number that its journal had reached before the start. If there is a journal, it works.
pub record HasStarted (journal text : Option (List ℕ)) (fence : Option ℕ) (config : Config)
    (start : World) (reached : ℕ) (before : JournalState) (bound begun : Option (List HostCall))
    : Type 0 where
  pub base : World
  pub script : Option (List ℕ)
  pub has_script : HasScript text config base script
  pub missed : ℕ
  pub resumed : World
  pub resumes : ResumesIn script base resumed reached
  pub starts : start ≡ world_after_ticks missed resumed
  pub works : IsSome journal → before.is_broken ≡ false
  pub writes : IsSome journal → before.text ≡ option_map (started_text config missed fence) text
  pub begins : Begins journal text script config missed fence bound begun
