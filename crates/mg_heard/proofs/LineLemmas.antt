-- The maximum lengths of the parts of a line.
use Rattle.std.proofs.Common.{ℕ, ◌<◌, ◌≤◌, ◌^◌, length, length-append, append_assoc, arith}
use Rattle.std.proofs.lemmas.Fmt.{length-decimal-le}
use Rattle.std.specs.Prelude.{decimal}
use Rattle.mg_bytes.proofs.AppendedLemmas.{appended-appended}

pub decimal_short : (n : ℕ) → n < 2 ^ 64 → length (decimal n) ≤ 20
decimal_short n lt = length-decimal-le 20 n (omega arith) (omega arith) lt

pub ruleset lengths = (decimal_short, length-append)

pub ruleset steps = (appended-appended, append_assoc, length-append)
