-- The exit status after a run.
use Rattle.std.proofs.Common.{◌≡◌, Err}
use Rattle.mg_core.specs.declared.fault.RunFault.{RunFault}
use Rattle.mg_core.specs.declared.fault.RunFault.TheVariants as faults
use Rattle.mg_options.specs.declared.status.Status.TheVariants.{Done}
use Rattle.mg_program.specs.Status.{status_of}

-- If a run ended with a fault, its exit status is not `Done`.
pub fault_is_told : (fault : RunFault) → status_of (Err fault) ≡ Done → ⊥
unfolding status_of
fault_is_told (faults.Script line) done = cc
fault_is_told faults.BadConfig done = cc
fault_is_told faults.Read done = cc
fault_is_told faults.Write done = cc
fault_is_told faults.NoMemory done = cc
