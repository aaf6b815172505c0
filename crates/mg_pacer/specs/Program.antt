-- The effect of a run of the program. `EndsWith` in `mg_options` defines how the run ends, given its arguments.
use Rattle.std.specs.Prelude.{◌≡◌, ℕ, List, Option, Result}
use Rattle.mg_clock.specs.Ticks.{ClockSeen}
use Rattle.mg_options.specs.declared.status.Status.{Status}
use Rattle.mg_pacer.specs.declared.fault.PaceFault.{PaceFault}
use Rattle.mg_pacer.specs.declared.options.Options.{Options}
use Rattle.mg_pacer.specs.Status.{status_of}
use Rattle.mg_pacer.specs.Run.{Paced}

-- A run took place, and the status says how it ended.
pub record Runs (options : Options) (failed silent : Type 0) (old new : ClockSeen)
    (held written : Option (List ℕ)) (status : Status) : Type 0 where
  pub outcome : Result (Unit {0}) PaceFault
  pub is : status ≡ status_of outcome
  pub paced : Paced options failed silent old new held written outcome
