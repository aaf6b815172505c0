-- The two laws of ITU-T G.711 on 16-bit samples. A level k has an exponent from 0 to 7, `k / 16`,
-- and a mantissa from 0 to 15, `k % 16`.
use Rattle.std.specs.Prelude.{ℕ, ℤ, Bool, pos, neg_ℤ, ◌+◌, ◌-◌, ◌*◌, ◌/◌, ◌%◌, ◌^◌, ◌==◌, nat_lt}
use Rattle.std.specs.Prelude.{nat_le, int_lt, unsigned_abs, bit_xor, if◌then◌else◌, count_by}
use Rattle.std.specs.List.{range_with_len}
use Rattle.mg_g711.specs.declared.law.Law.{Law}
use Rattle.mg_g711.specs.declared.law.Law.TheVariants.{Mu, A}

-- The smallest magnitude in a level: a decision value of G.711, scaled by 4 for mu-law (table 2) and by 8 for A-law
-- (table 1).
abbrev pub least_of : Law → ℕ → ℕ
least_of Mu k = if k == 0 then 0 else (16 + k % 16) * 2 ^ (k / 16 + 3) - 132
least_of A k = if nat_lt k 16 then 16 * k else (16 + k % 16) * 2 ^ (k / 16 + 3)

-- The decoded magnitude of a level: a quantized value of the same tables, scaled in the same way.
abbrev pub magnitude_of : Law → ℕ → ℕ
magnitude_of Mu k = (8 * (k % 16) + 132) * 2 ^ (k / 16) - 132
magnitude_of A k = if nat_lt k 16 then 16 * k + 8 else (16 * (k % 16) + 264) * 2 ^ (k / 16 - 1)

-- The level of a magnitude: the number of levels from 1 to 127 that start at or below the magnitude.
unfoldable pub level_of : Law → ℕ → ℕ
level_of law v = count_by (λ k. nat_le (least_of law k) v) (range_with_len 1 127)

-- The byte of a level and a sign: a character signal of the same tables. A-law inverts every other bit.
abbrev pub byte_at : Law → Bool → ℕ → ℕ
byte_at Mu is_negative k = if is_negative then 127 - k else 255 - k
byte_at A is_negative k = if is_negative then bit_xor k 0x55 else bit_xor (128 + k) 0x55

-- The byte of a sample.
unfoldable pub byte_of : Law → ℤ → ℕ
byte_of law v = byte_at law (int_lt v (pos 0)) (level_of law (unsigned_abs v))

-- A magnitude with a sign.
abbrev pub signed : Bool → ℕ → ℤ
signed is_negative m = if is_negative then neg_ℤ (pos m) else pos m

-- The sample of a byte.
unfoldable pub sample_of : Law → ℕ → ℤ
sample_of Mu b = signed (nat_le 128 (255 - b)) (magnitude_of Mu ((255 - b) % 128))
sample_of A b = signed (nat_lt (bit_xor b 0x55) 128) (magnitude_of A (bit_xor b 0x55 % 128))

-- A sample after encoding and decoding.
abbrev pub quantized_of : Law → ℤ → ℤ
quantized_of law v = sample_of law (byte_of law v)
