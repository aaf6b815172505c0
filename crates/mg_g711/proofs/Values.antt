-- The code computes the magnitude of a level without overflow, as checked for each of the 128 levels.
use Rattle.std.proofs.Common.{◌≡◌, ℕ, true, ◌+◌, ◌-◌, ◌*◌, ◌/◌, ◌%◌, ◌^◌, ◌<◌, ◌≤◌, ◌&&◌, ◌||◌, arith, refl, nat_eq, nat_le, nat_lt}
use Rattle.std.proofs.lemmas.Bool.Decides.{nat_tests}
use Rattle.mg_g711.specs.declared.law.Law.TheVariants.{Mu}
use Rattle.mg_g711.specs.Law.{magnitude_of}
use Rattle.mg_g711.proofs.Computed.{holds_below}

mu_parts : (x y z : ℕ) → nat_eq x y && (nat_le 132 z && nat_le y 32124) ≡ true → (x ≡ y) × (132 ≤ z) × (y ≤ 32124)
mu_parts x y z h = grind (arith, nat_tests)

pub magnitude_mu_is : (k : ℕ) → k < 128 → ((8 * (k % 16) + 132) * 2 ^ (k / 16) % 65536 - 132 ≡ magnitude_of Mu k) ×
    (132 ≤ (8 * (k % 16) + 132) * 2 ^ (k / 16) % 65536) × (magnitude_of Mu k ≤ 32124)
magnitude_mu_is k h =
    let shifted : ℕ → ℕ = λ i. (8 * (i % 16) + 132) * 2 ^ (i / 16) % 65536 in
    mu_parts (shifted k - 132) (magnitude_of Mu k) (shifted k)
    (holds_below (λ i. nat_eq (shifted i - 132) (magnitude_of Mu i) &&
    (nat_le 132 (shifted i) && nat_le (magnitude_of Mu i) 32124)) 128 refl k h)

a_parts : (k x y : ℕ) → nat_lt k 16 || (nat_eq x y && nat_le y 32256) ≡ true → 16 ≤ k → (x ≡ y) × (y ≤ 32256)
a_parts k x y h l = grind (arith, nat_tests)

pub magnitude_a_is : (k : ℕ) → k < 128 → 16 ≤ k →
    ((16 * (k % 16) + 264) * 2 ^ (k / 16 - 1) % 65536 ≡ (16 * (k % 16) + 264) * 2 ^ (k / 16 - 1)) ×
    ((16 * (k % 16) + 264) * 2 ^ (k / 16 - 1) ≤ 32256)
magnitude_a_is k h l =
    let wide : ℕ → ℕ = λ i. (16 * (i % 16) + 264) * 2 ^ (i / 16 - 1) in
    a_parts k (wide k % 65536) (wide k) (holds_below
    (λ i. nat_lt i 16 || (nat_eq (wide i % 65536) (wide i) && nat_le (wide i) 32256)) 128 refl k h) l
