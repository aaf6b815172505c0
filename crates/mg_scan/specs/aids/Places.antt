-- Tokens that the code finds, given as positions in the bytes.
use Rattle.std.specs.Prelude.{◌≡◌, ℕ, ◌+◌, ◌<◌, ◌≤◌, List, drop, length, Option, Some, None, Result}
use Rattle.std.specs.Prelude.{Ok, Err}
use Rattle.std.specs.List.{slice_range}
use Rattle.mg_scan.specs.declared.fault.ScanFault.{ScanFault}
use Rattle.mg_scan.specs.declared.found.Found.{Found}
use Rattle.mg_scan.specs.Tokens.{TokenAndRest, token_and_rest, closing_len}

-- The positions that the code found delimit the token that the definitions require.
pub record Places (bytes : List ℕ) (want : Option (Result TokenAndRest ScanFault))
    (x : Found) : Type 0 where
  pub start : x.start ≤ x.end
  pub end : x.end + closing_len x.kind ≡ x.next
  pub some : 0 < x.next
  pub next : x.next ≤ length bytes
  pub is : want ≡ token_and_rest x.kind (slice_range bytes x.start x.end) (drop x.next bytes)

-- The code returns the token, the fault or `None`, as the definitions require.
abbrev pub FindsAs : List ℕ → Option (Result TokenAndRest ScanFault)
    → Option (Result Found ScanFault)
    → Type 0
FindsAs bytes want None = want ≡ None
FindsAs bytes want (Some (Err f)) = want ≡ Some (Err f)
FindsAs bytes want (Some (Ok x)) = Places bytes want x
