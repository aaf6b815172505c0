-- Upper bounds on the exit statuses of a program that reports an error.
use Rattle.std.proofs.Common.{◌≤◌, inl, inr, arith}
use Rattle.clap.specs.declared.error.kind.ErrorKind.{ErrorKind}
use Rattle.clap.specs.declared.error.kind.ErrorKind.TheVariants.{OutOfMemory, DisplayHelp, DisplayVersion}
use Rattle.mg_options.specs.declared.status.Status.{Status}
use Rattle.mg_options.specs.declared.status.Status.TheVariants.{Done, Usage, NoMemory}
use Rattle.mg_options.specs.Ends.{ReportsError}
use Rattle.mg_options.specs.Status.{code_of}

pub done_is_small : code_of Done ≤ 4
unfolding code_of
done_is_small = omega arith

usage_is_small : code_of Usage ≤ 4
unfolding code_of
usage_is_small = omega arith

no_memory_is_small : code_of NoMemory ≤ 4
unfolding code_of
no_memory_is_small = omega arith

-- If the status for unprinted help is at most 4, a program that reports an error exits with a status of at most 4.
pub told_is_small : {W : Type 0} (kind : ErrorKind) (unprinted : Status) (old new : W) (status : Status) →
    code_of unprinted ≤ 4 → ReportsError kind unprinted old new status
    → code_of status ≤ 4
told_is_small OutOfMemory unprinted old new status small reported = rw reported.0 no_memory_is_small
told_is_small DisplayHelp unprinted old new status small (inl done) = rw done done_is_small
told_is_small DisplayHelp unprinted old new status small (inr failed) = rw failed small
told_is_small DisplayVersion unprinted old new status small (inl done) = rw done done_is_small
told_is_small DisplayVersion unprinted old new status small (inr failed) = rw failed small
told_is_small kind unprinted old new status small reported = rw reported.0 usage_is_small
