-- Several files, while they are verified.
use Rattle.std.specs.Prelude.{◌≡◌, ◌⊎◌, ℕ, Bool, true, false, List, Option, Some, None}
use Rattle.std.specs.Prelude.{Result, Ok, Err, MatchResult, if◌then◌else◌}
use Rattle.mg_host.specs.declared.host_call.HostCall.{HostCall}
use Rattle.mg_host.specs.HostCalls.{ReadsFrom}
use Rattle.mg_options.specs.declared.status.Status.{Status}
use Rattle.mg_options.specs.declared.status.Status.TheVariants.{Done, BadLine, Failed, NoMemory, BadJournal}
use Rattle.mg_sealing.specs.Verify.{IsVerifiedNext}
use Rattle.mg_program.specs.Verify.{AreVerified, with_rest}

-- The exit status for files that were read.
abbrev pub answer_if : (are_valid : Bool) → Status
answer_if are_valid = if are_valid then Done else BadLine

-- Whether a file's seals are valid and it follows the file before it, or else the exit status of a fault.
abbrev pub validity_of : Status → Result Bool Status
validity_of Done = Ok true
validity_of BadLine = Ok false
validity_of fault = Err fault

-- The exit status at the end.
abbrev pub end_status : Result Bool Status → Status
end_status (Ok are_valid) = answer_if are_valid
end_status (Err fault) = fault

-- Unless a fault occurred, this is true of the exit status.
abbrev pub UnlessErr : (done : Status → Type 0) → Result Bool Status → Type 0
UnlessErr done result = MatchResult result (λ are_valid. done (answer_if are_valid))
    (λ fault. (fault ≡ Failed) ⊎ (fault ≡ NoMemory) ⊎ (fault ≡ BadJournal))

-- The next of several files was opened, read and reported on.
abbrev pub IsNext : (path : List ℕ) → (last end : Option (List ℕ)) → (before after : Option (List HostCall))
    → (old new : Option (List ℕ)) → Status → Type 0
IsNext path last end before after old new status = (text : Option (List ℕ))
    × ReadsFrom (Some path) before after None text × IsVerifiedNext last path text old new end status

-- The files `left` are still to be verified: once they are, all files are. `status` is the exit status so far.
abbrev pub AreVerifiedSoFar : (paths left : List (List ℕ)) → (last : Option (List ℕ))
    → (before opened : Option (List HostCall)) → (old printed : Option (List ℕ)) → Status → Type 0
AreVerifiedSoFar paths left last before opened old printed status =
    (after : Option (List HostCall)) → (new : Option (List ℕ)) → (rest : Status)
    → AreVerified left last opened after printed new rest
    → AreVerified paths None before after old new (with_rest status rest)
