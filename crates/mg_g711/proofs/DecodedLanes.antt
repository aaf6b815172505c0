-- The contents of the lanes while bytes are decoded, checked for each of the 256 bytes.
use Rattle.std.proofs.Common.{◌≡◌, ℕ, ℤ, true, pos, ◌+◌, ◌*◌, ◌/◌, ◌%◌, ◌<◌, List, [], ◌∷◌, get_or, cond, refl, arith, nat_lt, ltb, bit_and, bit_xor, to_z, FitsSigned}
use Rattle.std.specs.Int.{w16}
use Rattle.std.specs.Ordering.{int_eq}
use lib.Lanes.{top}
use Rattle.std.proofs.lemmas.Int.{ints}
use Rattle.std.proofs.lemmas.Bool.Decides.{nat_tests, Decides-int_eq}
use Rattle.mg_g711.specs.declared.law.Law.TheVariants.{Mu, A}
use Rattle.mg_g711.specs.Law.{sample_of}
use Rattle.mg_g711.proofs.Computed.{holds_below}

below_16 : (n : ℕ) → nat_lt n 16 ≡ true → n < 16
below_16 n h = grind (arith, nat_tests)

small_fits : (n : ℕ) → nat_lt n 32768 ≡ true → FitsSigned w16 (pos n)
small_fits n h = let small : n < 32768 = grind (arith, nat_tests) in omega (arith, ints)

-- A magnitude with its sign. The sign is negative if the inverted byte is at least 128.
abbrev with_sign : ℕ → ℕ → ℤ
with_sign turned magnitude = to_z w16 (cond (top 15 (cond (ltb turned 128) 65535 0)) magnitude
    (magnitude * 65535 % 65536))

-- These definitions and lemmas are about decoding mu-law, lane by lane.
abbrev pub mu_factors : List ℕ
mu_factors = 1 ∷ 2 ∷ 4 ∷ 8 ∷ 16 ∷ 32 ∷ 64 ∷ 128 ∷ 0 ∷ 0 ∷ 0 ∷ 0 ∷ 0 ∷ 0 ∷ 0 ∷ 0 ∷ []

abbrev mu_exponent : ℕ → ℕ
mu_exponent b = bit_and (bit_xor b 255 / 16) 7

abbrev mu_magnitude : ℕ → ℕ
mu_magnitude b = ((bit_and (bit_xor b 255) 15 * 8 % 256 + 132) % 256 * get_or mu_factors (mu_exponent b) 0 % 65536 +
    65404) % 65536

abbrev mu_sample : ℕ → ℤ
mu_sample b = with_sign (bit_xor b 255) (mu_magnitude b)

pub mu_exponent_below : (b : ℕ) → b < 256 → mu_exponent b < 16
mu_exponent_below b h = below_16 (mu_exponent b) (holds_below (λ i. nat_lt (mu_exponent i) 16) 256 refl b h)

pub mu_magnitude_fits : (b : ℕ) → b < 256 → FitsSigned w16 (pos (mu_magnitude b))
mu_magnitude_fits b h = small_fits (mu_magnitude b) (holds_below (λ i. nat_lt (mu_magnitude i) 32768) 256 refl b h)

pub mu_sample_is : (b : ℕ) → b < 256 → mu_sample b ≡ sample_of Mu b
unfolding sample_of
mu_sample_is b h = (Decides-int_eq (mu_sample b) (sample_of Mu b)).0
    (holds_below (λ i. int_eq (mu_sample i) (sample_of Mu i)) 256 refl b h)

-- These definitions and lemmas are about decoding A-law, lane by lane.
abbrev pub a_factors : List ℕ
a_factors = 2 ∷ 2 ∷ 4 ∷ 8 ∷ 16 ∷ 32 ∷ 64 ∷ 128 ∷ 0 ∷ 0 ∷ 0 ∷ 0 ∷ 0 ∷ 0 ∷ 0 ∷ 0 ∷ []

abbrev pub a_starts : List ℕ
a_starts = 4 ∷ 132 ∷ 132 ∷ 132 ∷ 132 ∷ 132 ∷ 132 ∷ 132 ∷ 0 ∷ 0 ∷ 0 ∷ 0 ∷ 0 ∷ 0 ∷ 0 ∷ 0 ∷ []

abbrev a_exponent : ℕ → ℕ
a_exponent b = bit_and (bit_xor b 213 / 16) 7

abbrev a_magnitude : ℕ → ℕ
a_magnitude b = (bit_and (bit_xor b 213) 15 * 8 % 256 + get_or a_starts (a_exponent b) 0) % 256 * get_or a_factors
    (a_exponent b) 0 % 65536

abbrev a_sample : ℕ → ℤ
a_sample b = with_sign (bit_xor b 213) (a_magnitude b)

pub a_exponent_below : (b : ℕ) → b < 256 → a_exponent b < 16
a_exponent_below b h = below_16 (a_exponent b) (holds_below (λ i. nat_lt (a_exponent i) 16) 256 refl b h)

pub a_magnitude_fits : (b : ℕ) → b < 256 → FitsSigned w16 (pos (a_magnitude b))
a_magnitude_fits b h = small_fits (a_magnitude b) (holds_below (λ i. nat_lt (a_magnitude i) 32768) 256 refl b h)

pub a_sample_is : (b : ℕ) → b < 256 → a_sample b ≡ sample_of A b
unfolding sample_of
a_sample_is b h = (Decides-int_eq (a_sample b) (sample_of A b)).0
    (holds_below (λ i. int_eq (a_sample i) (sample_of A i)) 256 refl b h)
