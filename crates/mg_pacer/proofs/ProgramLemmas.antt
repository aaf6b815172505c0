-- The exit statuses of the program.
use Rattle.std.proofs.Common.{◌≡◌, ◌≤◌, Result, Ok, Err, arith}
use Rattle.mg_options.specs.Status.{code_of}
use Rattle.mg_options.specs.declared.status.Status.{Status}
use Rattle.mg_pacer.specs.declared.fault.PaceFault.{PaceFault}
use Rattle.mg_pacer.specs.declared.fault.PaceFault.TheVariants as faults
use Rattle.mg_pacer.specs.Status.{status_of}

-- The exit status after a run is at most 4.
pub run_is_small : (outcome : Result (Unit {0}) PaceFault) (status : Status) → status ≡ status_of outcome →
    code_of status ≤ 4
unfolding code_of status_of
run_is_small (Ok done) status is = rw is (omega arith)
run_is_small (Err faults.Closed) status is = rw is (omega arith)
run_is_small (Err faults.Clock) status is = rw is (omega arith)
