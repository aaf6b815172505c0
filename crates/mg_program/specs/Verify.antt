-- What `mg_bridge verify` checks, and what it prints.
use Rattle.std.specs.Prelude.{◌≡◌, ℕ, List, [], ◌∷◌, Option, Some, None}
use Rattle.mg_host.specs.declared.host_call.HostCall.{HostCall}
use Rattle.mg_host.specs.HostCalls.{ReadsFrom}
use Rattle.mg_options.specs.declared.status.Status.{Status}
use Rattle.mg_options.specs.declared.status.Status.TheVariants.{Done, BadLine}
use Rattle.mg_sealing.specs.Verify.{IsVerified, IsVerifiedNext}

-- The exit status for several files, given that of the first file and that of the rest.
abbrev pub with_rest : (first rest : Status) → Status
with_rest Done rest = rest
with_rest first rest = BadLine

-- The files with these paths were opened and read in this order, and the report about each was printed. `last` is the
-- end of the seal that would follow the file before them.
abbrev pub AreVerified : (paths : List (List ℕ)) → (last : Option (List ℕ))
    → (before after : Option (List HostCall)) → (old new : Option (List ℕ)) → Status → Type 0
AreVerified [] last before after old new status = (after ≡ before) × (new ≡ old) × (status ≡ Done)
AreVerified (path ∷ later) last before after old new status =
    (opened : Option (List HostCall)) × (text : Option (List ℕ)) × ReadsFrom (Some path) before opened None text
    × (end printed : Option (List ℕ)) × (first rest : Status)
    × IsVerifiedNext last path text old printed end first
    × AreVerified later end opened after printed new rest × (status ≡ with_rest first rest)

-- The seals of a file, of the input or, if there are later files, of all files.
abbrev pub IsVerifiedFrom : (file : Option (List ℕ)) → (later : List (List ℕ))
    → (before after : Option (List HostCall)) → (input old new : Option (List ℕ)) → Status → Type 0
IsVerifiedFrom (Some file) (next ∷ later) before after input old new status =
    AreVerified (file ∷ next ∷ later) None before after old new status
IsVerifiedFrom file later before after input old new status =
    (text : Option (List ℕ)) × ReadsFrom file before after input text × IsVerified text old new status
