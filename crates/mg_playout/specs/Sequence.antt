-- Sequence numbers of RTP packets, which wrap after 65535 (RFC 3550, section 5.1).
use Rattle.std.specs.Prelude.{ℕ, ◌+◌, ◌-◌, ◌%◌, ℤ}
use Rattle.std.specs.Int.{cast_signed, w16}

-- The number of steps up from the first number to the second, modulo 65536.
abbrev pub steps_between : ℕ → ℕ → ℕ
steps_between from to = (to + (65536 - from)) % 65536

-- How far the second number is ahead of the first, as a signed 16-bit number. The distance is negative if the second
-- number is behind. RFC 3550, appendix A.1, compares the unsigned steps. The sign is the order of RFC 1982, section
-- 3.2. A number exactly halfway around, which has no order there, counts as behind.
abbrev pub distance_of : ℕ → ℕ → ℤ
distance_of from to = cast_signed w16 (steps_between from to)
