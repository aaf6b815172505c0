-- The effect of running a script.
use Rattle.std.specs.Prelude.{◌≡◌, ◌⊎◌, ◌↔◌, ℕ, List, Option, Result, Err}
use Rattle.mg_service.specs.Script.{HasScript}
use Rattle.mg_engine.specs.declared.config.Config.{Config}
use Rattle.mg_core.specs.World.{World}
use Rattle.mg_core.specs.declared.counts.Counts.{Counts}
use Rattle.mg_core.specs.declared.fault.RunFault.{RunFault}
use Rattle.mg_core.specs.declared.fault.RunFault.TheVariants as faults
use Rattle.mg_core.specs.declared.shown.Shown.{Shown}
use Rattle.mg_engine.specs.Config.{IsValidConfig}
use Rattle.mg_core.specs.Run.{ScriptRan}
use Rattle.mg_hearing.specs.Resumed.{BeginsWithCheckpoint}
use Rattle.mg_options.specs.declared.status.Status.{Status}
use Rattle.mg_program.specs.Status.{status_of}

-- The input's script was run, beginning in the world in which the script begins. Or the input begins with a checkpoint
-- from which no gateway goes on, and nothing was written.
abbrev pub RanInput : Config → Shown → (input rest old new : Option (List ℕ)) → Result Counts RunFault → Type 0
RanInput config shown input rest old new outcome =
    ((base : World) × (script : Option (List ℕ)) × HasScript input config base script
    × ScriptRan base shown script rest old new outcome)
    ⊎ (BeginsWithCheckpoint input × ((fault : RunFault) × (outcome ≡ Err fault)) × (new ≡ old))

-- A script was run, and the status says how the run ended.
pub record Replays (config : Config) (shown : Shown) (input rest old new : Option (List ℕ))
    (status : Status) : Type 0 where
  pub outcome : Result Counts RunFault
  pub is : status ≡ status_of outcome
  pub ran : RanInput config shown input rest old new outcome
  pub bad : (outcome ≡ Err faults.BadConfig) ↔ (IsValidConfig config → ⊥)
