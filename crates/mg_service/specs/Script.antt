-- The script that a journal or a recording contains, and the world in which it begins.
use Rattle.std.specs.Prelude.{◌≡◌, ◌⊎◌, ℕ, List, ◌++◌, Option}
use Rattle.std.specs.Io.KnownBytes.{prepend_known}
use Rattle.mg_checkpoint.specs.Checkpoint.{checkpoint_text, without_speech}
use Rattle.mg_core.specs.Base.{IsBase}
use Rattle.mg_core.specs.World.{World, start_of}
use Rattle.mg_engine.specs.declared.config.Config.{Config}
use Rattle.mg_service.specs.Title.{title_line}

-- A gateway with this configuration began in the world `base`, and `script` is what its journal says of the time since
-- then. Either the gateway was new, and the script is the whole text of the journal. Or the journal was renewed: it
-- begins with its title and a checkpoint of the base, in which no RTP datagram has arrived, and the script follows.
abbrev pub HasScript : (text : Option (List ℕ)) → Config → (base : World)
    → (script : Option (List ℕ)) → Type 0
HasScript text config base script =
    ((base ≡ start_of config) × (script ≡ text))
    ⊎ (IsBase base × (base.gateway.config ≡ config) × (without_speech base ≡ base)
    × (text ≡ prepend_known (title_line config ++ checkpoint_text base) script))
