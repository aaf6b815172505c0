-- Exit statuses.
use Rattle.std.specs.Prelude.{Result, Ok, Err}
use Rattle.mg_core.specs.declared.counts.Counts.{Counts}
use Rattle.mg_core.specs.declared.fault.RunFault.{RunFault}
use Rattle.mg_core.specs.declared.fault.RunFault.TheVariants as faults
use Rattle.mg_options.specs.declared.status.Status.{Status}
use Rattle.mg_options.specs.declared.status.Status.TheVariants.{Done, BadLine, Usage, Failed}
use Rattle.mg_options.specs.declared.status.Status.TheVariants.{NoMemory}

-- The exit status after a run with this outcome.
unfoldable pub status_of : Result Counts RunFault → Status
status_of (Ok counts) = Done
status_of (Err (faults.Script n)) = BadLine
status_of (Err faults.BadConfig) = Usage
status_of (Err faults.NoMemory) = NoMemory
status_of (Err fault) = Failed
