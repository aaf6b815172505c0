-- Samples after encoding and decoding, and bytes after decoding and encoding.
use Rattle.std.proofs.Common.{◌≡◌, ◌≢◌, ℕ, ℤ, Bool, true, false, ◌+◌, ◌-◌, ◌%◌, ◌<◌, ◌≤◌, ◌||◌, pos, negsuc, neg_ℤ, ◌≤ℤ◌, arith, refl, ap, sym, subst, inl, inr, suc, nat_eq, nat_le, nat_lt, ◌∙◌, bit_xor}
use Rattle.std.specs.Prelude.{int_lt, unsigned_abs}
use Rattle.std.proofs.lemmas.Int.{ints}
use Rattle.std.proofs.lemmas.Bool.{cases_eq, cases_lt, eqb-true, le-leb, le-ltb, lt-leb, lt-ltb}
use Rattle.std.proofs.lemmas.Bool.Decides.{nat_tests}
use Rattle.mg_g711.specs.declared.law.Law.{Law}
use Rattle.mg_g711.specs.declared.law.Law.TheVariants.{Mu, A}
use Rattle.mg_g711.specs.Law.{byte_at, byte_of, least_of, level_of, magnitude_of, quantized_of, sample_of, signed}
use Rattle.mg_g711.proofs.Computed.{each_below, holds_below}
use Rattle.mg_g711.proofs.Growing.{grows}
use Rattle.mg_g711.proofs.Levels.{least_of_grows, level_of_lies, magnitude_of_grows}

-- Inverting the bits of A-law twice yields the same byte. By the lemmas below, the byte of a level and a sign decodes
-- to the level's magnitude with this sign.
inverted_twice : (k : ℕ) → k < 256 → bit_xor (bit_xor k 0x55) 0x55 ≡ k
inverted_twice k h = eqb-true (bit_xor (bit_xor k 0x55) 0x55) k
    (holds_below (λ i. nat_eq (bit_xor (bit_xor i 0x55) 0x55) i) 256 refl k h)

sign_bit : (k : ℕ) → k < 128 → (nat_le 128 (128 + k) ≡ true) × (nat_le 128 k ≡ false) ×
    (nat_lt (128 + k) 128 ≡ false) × (nat_lt k 128 ≡ true) × ((128 + k) % 128 ≡ k) × (k % 128 ≡ k)
sign_bit k h = (
  le-leb 128 (128 + k) (omega arith),
  lt-leb 128 k h,
  le-ltb (128 + k) 128 (omega arith),
  lt-ltb k 128 h,
  omega arith,
  omega arith,
)

sample_of-byte_at : (law : Law) (is_negative : Bool) (k : ℕ) → k < 128 →
    sample_of law (byte_at law is_negative k) ≡ signed is_negative (magnitude_of law k)
unfolding sample_of
sample_of-byte_at Mu true k h = let turned : 255 - (127 - k) ≡ 128 + k = omega arith in let bits = sign_bit k h in
    rw (turned, bits.0, bits.4)
sample_of-byte_at Mu false k h = let turned : 255 - (255 - k) ≡ k = omega arith in let bits = sign_bit k h in
    rw (turned, bits.1, bits.5)
sample_of-byte_at A true k h = let turned = inverted_twice k (omega arith) in let bits = sign_bit k h in
    rw (turned, bits.3, bits.5)
sample_of-byte_at A false k h = let turned = inverted_twice (128 + k) (omega arith) in let bits = sign_bit k h in
    rw (turned, bits.2, bits.4)

-- Encoding and decoding a sample yields the magnitude of its level, with the sample's sign.
pub quantized_is : (law : Law) (v : ℤ) → quantized_of law v ≡
    signed (int_lt v (pos 0)) (magnitude_of law (level_of law (unsigned_abs v)))
unfolding byte_of
quantized_is law v =
    let lies = level_of_lies law (unsigned_abs v) in
    sample_of-byte_at law (int_lt v (pos 0)) (level_of law (unsigned_abs v)) (let small = lies.small in omega arith)

-- Whether a byte survives decoding and encoding, or is mu-law's negative zero.
abbrev comes_back : Law → ℕ → Bool
comes_back Mu b = nat_eq b 0x7f || nat_eq (byte_of Mu (sample_of Mu b)) b
comes_back A b = nat_eq (byte_of A (sample_of A b)) b

come_back_all : (law : Law) → each_below (comes_back law) 256 ≡ true
unfolding byte_of sample_of level_of
come_back_all Mu = refl
come_back_all A = refl

pub negative_zero : (sample_of Mu 0x7f ≡ pos 0) × (byte_of Mu (pos 0) ≡ 0xff)
unfolding byte_of sample_of level_of
negative_zero = (refl, refl)

but_one : (b byte : ℕ) → nat_eq b 0x7f || nat_eq byte b ≡ true → b ≢ 0x7f → byte ≡ b
but_one b byte h other = grind (arith, nat_tests)

pub byte_comes_back : (law : Law) (b : ℕ) → b < 256 → (law ≡ Mu → b ≢ 0x7f) → byte_of law (sample_of law b) ≡ b
byte_comes_back Mu b h other = but_one b (byte_of Mu (sample_of Mu b))
    (holds_below (comes_back Mu) 256 (come_back_all Mu) b h) (other refl)
byte_comes_back A b h other = eqb-true (byte_of A (sample_of A b)) b
    (holds_below (comes_back A) 256 (come_back_all A) b h)

pub sample_comes_back : (law : Law) (b : ℕ) → b < 256 → quantized_of law (sample_of law b) ≡ sample_of law b
unfolding sample_of
sample_comes_back A b h = ap (sample_of A) (byte_comes_back A b h (λ is. cc))
sample_comes_back Mu b h =
    elim (cases_eq b 0x7f) [
      | inl is ↦ subst (λ (i : ℕ). quantized_of Mu (sample_of Mu i) ≡ sample_of Mu i) (sym is)
          (ap (sample_of Mu) negative_zero.1)
      | inr other ↦ ap (sample_of Mu) (byte_comes_back Mu b h (λ _. other))
    ]

-- A greater magnitude never has a lower level, so encoding and decoding preserve the order of samples.
level_of_keeps : (law : Law) (m n : ℕ) → m ≤ n → level_of law m ≤ level_of law n
level_of_keeps law m n h =
    let low = level_of_lies law m in
    let high = level_of_lies law n in
    elim (cases_lt (level_of law n) (level_of law m)) [
      | inr kept ↦ kept
      | inl turned ↦
          let next : n < least_of law (suc (level_of law n)) = high.to (let s = low.small in omega arith) in
          let grown : least_of law (suc (level_of law n)) ≤ least_of law (level_of law m) =
          grows 127 (least_of law) (least_of_grows law) (suc (level_of law n)) (level_of law m) (omega arith)
          low.small in
          absurd (omega (arith, low.from, next, grown, h))
    ]

value : Law → ℕ → ℕ
value law n = magnitude_of law (level_of law n)

value_keeps : (law : Law) (m n : ℕ) → m ≤ n → value law m ≤ value law n
unfolding value
value_keeps law m n h =
    grows 127 (magnitude_of law) (magnitude_of_grows law) (level_of law m) (level_of law n) (level_of_keeps law m n h)
    ((level_of_lies law n).small)

value_of_pos : (law : Law) (n : ℕ) → quantized_of law (pos n) ≡ pos (value law n)
unfolding value
value_of_pos law n = let above : nat_lt n 0 ≡ false = le-ltb n 0 (omega arith) in quantized_is law (pos n) ∙ rw above

value_of_negsuc : (law : Law) (n : ℕ) → quantized_of law (negsuc n) ≡ neg_ℤ (pos (value law (suc n)))
unfolding value
value_of_negsuc law n = quantized_is law (negsuc n)

pub order_kept : (law : Law) (v w : ℤ) → v ≤ℤ w → quantized_of law v ≤ℤ quantized_of law w
order_kept law (pos m) (pos n) h = rw (value_of_pos law m, value_of_pos law n)
    (let kept = value_keeps law m n (omega (arith, ints)) in omega (arith, ints))
order_kept law (pos m) (negsuc n) h = absurd (omega (arith, ints))
order_kept law (negsuc m) (pos n) h = rw (value_of_negsuc law m, value_of_pos law n) (omega (arith, ints))
order_kept law (negsuc m) (negsuc n) h = rw (value_of_negsuc law m, value_of_negsuc law n)
    (let kept = value_keeps law (suc n) (suc m) (omega (arith, ints)) in omega (arith, ints))
