-- The beginning of a script, as far as it was read.
use Rattle.std.specs.Prelude.{◌≡◌, ℕ, List, [], ◌++◌, Option, None, Some}
use Rattle.std.specs.Option.{option_map}
use Rattle.std.specs.Io.KnownBytes.{Consumes}
use Rattle.mg_service.specs.Title.{title_line}
use Rattle.mg_checkpoint.specs.Checkpoint.{checkpoint_text, without_speech}
use Rattle.mg_core.specs.Base.{IsBase}
use Rattle.mg_core.specs.World.{World, start_of}
use Rattle.mg_engine.specs.declared.config.Config.{Config}
use Rattle.mg_hearing.specs.declared.checkpoint.Behind.{Behind}
use Rattle.mg_hearing.specs.declared.checkpoint.Behind.TheVariants.{Script, Checkpoint}
use Rattle.mg_hearing.specs.declared.start.Start.{Start}

-- These bytes were read behind a title.
abbrev pub IsBehind : Behind → (old new : Option (List ℕ)) → Type 0
IsBehind (Script words) old new = Consumes old new words.items
IsBehind (Checkpoint text) old new = Consumes old new text.items

-- The title was read, and the checkpoint if there is one. Without a checkpoint, `front` is all that was read.
abbrev pub HasBegunWith : Config → Option (List ℕ) → (front : List ℕ) → (old new : Option (List ℕ)) → Type 0
HasBegunWith config None front old new =
    (more : List ℕ) × (front ≡ title_line config ++ more) × Consumes old new front
HasBegunWith config (Some text) front old new = (front ≡ []) × Consumes old new (title_line config ++ text)

-- The checkpoint that a gateway goes on from, if any.
abbrev pub checkpoint_of : Start → Option (List ℕ)
checkpoint_of start = option_map (λ text. text.items) start.checkpoint

abbrev pub HasBegun : Start → (front : List ℕ) → (old new : Option (List ℕ)) → Type 0
HasBegun start front old new = HasBegunWith start.config (checkpoint_of start) front old new

-- A gateway with this configuration that goes on from this checkpoint, if any, begins with this world.
abbrev pub BeginsWith : Config → Option (List ℕ) → World → Type 0
BeginsWith config None base = base ≡ start_of config
BeginsWith config (Some text) base =
    IsBase base × (base.gateway.config ≡ config) × (without_speech base ≡ base) × (checkpoint_text base ≡ text)

abbrev pub IsBeginningOf : Start → World → Type 0
IsBeginningOf start base = BeginsWith start.config (checkpoint_of start) base

-- The title of a gateway with this configuration and a checkpoint of the base were read.
abbrev pub LeavesBase : Config → World → (old new : Option (List ℕ)) → Type 0
LeavesBase config base old new =
    IsBase base × (base.gateway.config ≡ config) × (without_speech base ≡ base)
    × Consumes old new (title_line config ++ checkpoint_text base)
