-- Exit statuses.
use Rattle.std.specs.Prelude.{Result, Ok, Err}
use Rattle.mg_options.specs.declared.status.Status.{Status}
use Rattle.mg_options.specs.declared.status.Status.TheVariants.{Done, Failed}
use Rattle.mg_pacer.specs.declared.fault.PaceFault.{PaceFault}
use Rattle.mg_pacer.specs.declared.fault.PaceFault.TheVariants as faults

-- The exit status after a run. If nobody reads the lines any more, the program has succeeded.
unfoldable pub status_of : Result (Unit {0}) PaceFault → Status
status_of (Ok done) = Done
status_of (Err faults.Closed) = Done
status_of (Err faults.Clock) = Failed
