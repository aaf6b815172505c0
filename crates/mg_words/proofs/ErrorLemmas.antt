-- Rules that bound the length of an error descriptor.
use Rattle.std.proofs.Common.{ℕ, ◌<◌, ◌≤◌, length, append_assoc, arith, decimal}
use Rattle.std.proofs.lemmas.Fmt.{length-decimal-le}

pub code_short : (n : ℕ) → n < 1000 → length (decimal n) ≤ 3
code_short n h = length-decimal-le 3 n (omega arith) (omega arith) (omega arith)

pub ruleset parts = (code_short, append_assoc)
