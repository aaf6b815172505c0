-- The maximum lengths of numbers of 8, 16 and 32 bits in decimal.
use Rattle.std.proofs.Common.{ℕ, ◌^◌, ◌<◌, ◌≤◌, length, arith, decimal}
use Rattle.std.proofs.lemmas.Fmt.{length-decimal-le}

pub byte_short : (n : ℕ) → n < 256 → length (decimal n) ≤ 3
byte_short n h = length-decimal-le 3 n (omega arith) (omega arith) (omega arith)

pub port_short : (n : ℕ) → n < 2 ^ 16 → length (decimal n) ≤ 5
port_short n h = length-decimal-le 5 n (omega arith) (omega arith) (omega arith)

pub number_short : (n : ℕ) → n < 2 ^ 32 → length (decimal n) ≤ 10
number_short n h = length-decimal-le 10 n (omega arith) (omega arith) (omega arith)
