-- States that were rebuilt from a checkpoint.
use Rattle.std.specs.Prelude.{◌≡◌}
use Rattle.mg_core.specs.declared.state.CoreState.{CoreState}
use Rattle.mg_core.specs.World.{World, no_events, counts_of}
use Rattle.mg_core.specs.aids.Stands.{StandsFor}
use Rattle.mg_core.specs.Base.{IsStart}
use Rattle.mg_engine.specs.declared.config.Config.{Config}
use Rattle.mg_engine.specs.aids.Quiet.{IsQuiet}
use Rattle.mg_engine.specs.aids.Stands.{EngineState}
use Rattle.mg_core.specs.Base.{IsBase}
use Rattle.mg_checkpoint.specs.Checkpoint.{without_speech}
use Rattle.mg_checkpoint.specs.Said.{said_of}

-- An engine stays quiet, with the same configuration.
pub record KeepsQuiet (old new : EngineState) : Type 0 where
  pub config : new.config ≡ old.config
  pub quiet : IsQuiet old → IsQuiet new

-- The state of a gateway with this configuration that has received no RTP datagram.
pub record IsRebuilt (given : Config) (state : CoreState) : Type 0 where
  pub start : IsStart given
  pub config : state.engine.config ≡ given
  pub quiet : IsQuiet state.engine
  pub counts : state.counts
      ≡ counts_of (record no_events { control = state.counts.control; ticks = state.counts.ticks })

-- The state represents a base with this configuration, in which no RTP datagram has arrived.
abbrev pub RepresentsBase : Config → CoreState → Type 0
RepresentsBase given state =
    (b : World) × IsBase b × (without_speech b ≡ b) × (b.gateway.config ≡ given)
    × StandsFor state b

-- Suppose the state represents a base in which no RTP datagram has arrived. Then it also represents each base with the
-- same configuration of which a checkpoint says the same, without its speech.
abbrev pub RestoresWorlds : Config → CoreState → Type 0
RestoresWorlds given state =
    (b w : World) → IsBase b → IsBase w → b.gateway.config ≡ given → w.gateway.config ≡ given
    → without_speech b ≡ b → said_of b ≡ said_of w → StandsFor state b
    → StandsFor state (without_speech w)
