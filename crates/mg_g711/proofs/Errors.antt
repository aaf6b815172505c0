-- The error of a sample: its distance from the sample after encoding and decoding.
use Rattle.std.proofs.Common.{◌≡◌, ℕ, ℤ, Bool, true, false, ◌+◌, ◌-◌, ◌≤◌, ◌||◌, ◌&&◌, pos, negsuc, ◌-ℤ◌, arith, refl, ap, sym, subst, inl, inr, suc, nat_eq, nat_le, nat_lt, ◌∙◌}
use Rattle.std.specs.Prelude.{int_lt, unsigned_abs}
use Rattle.std.proofs.lemmas.Int.{ints}
use Rattle.std.proofs.lemmas.Bool.{cases_lt, le-ltb}
use Rattle.std.proofs.lemmas.Bool.Decides.{nat_tests}
use Rattle.mg_g711.specs.declared.law.Law.{Law}
use Rattle.mg_g711.specs.declared.law.Law.TheVariants.{Mu, A}
use Rattle.mg_g711.specs.Law.{least_of, level_of, magnitude_of, quantized_of, signed}
use Rattle.mg_g711.specs.Error.{end_of, error_of, half_step_of}
use Rattle.mg_g711.proofs.Computed.{below_or_last, each_below, holds_below}
use Rattle.mg_g711.proofs.Levels.{LiesIn, LiesIn-level_of, level_of_lies}
use Rattle.mg_g711.proofs.Quantized.{quantized_is}

-- Numbers with the same sign are as far apart as their magnitudes. Encoding keeps the sign, so the error is the
-- difference of two magnitudes.
signed_apart : (is_negative : Bool) (m n : ℕ) →
    unsigned_abs (signed is_negative m -ℤ signed is_negative n) ≡ (m - n) + (n - m)
signed_apart true m n = omega (arith, ints)
signed_apart false m n = omega (arith, ints)

signed_abs : (v : ℤ) → signed (int_lt v (pos 0)) (unsigned_abs v) ≡ v
signed_abs (pos n) = let above : nat_lt n 0 ≡ false = le-ltb n 0 (omega arith) in rw above
signed_abs (negsuc n) = refl

error_is : (law : Law) (v : ℤ) (k : ℕ) → level_of law (unsigned_abs v) ≡ k →
    error_of law v ≡ (unsigned_abs v - magnitude_of law k) + (magnitude_of law k - unsigned_abs v)
error_is law v k is =
    let s : Bool = int_lt v (pos 0) in
    ap (λ (x : ℤ). unsigned_abs (x -ℤ quantized_of law v)) (sym (signed_abs v))
    ∙ ap (λ (x : ℤ). unsigned_abs (signed s (unsigned_abs v) -ℤ x)) (quantized_is law v)
    ∙ signed_apart s (unsigned_abs v) (magnitude_of law (level_of law (unsigned_abs v)))
    ∙ ap (λ (i : ℕ). (unsigned_abs v - magnitude_of law i) + (magnitude_of law i - unsigned_abs v)) is

-- Whether level k extends half a step (at most 512) above its value, and as far below it, unless k is 0. Only the first
-- level of mu-law starts at its value.
abbrev is_centred : Law → ℕ → Bool
is_centred law k =
    nat_eq (least_of law (suc k)) (magnitude_of law k + half_step_of law k)
    && (nat_le (magnitude_of law k) (least_of law k + half_step_of law k)
    && (nat_le (half_step_of law k) 512
    && (nat_eq k 0 || nat_eq (least_of law k + half_step_of law k) (magnitude_of law k))))

centred_all : (law : Law) → each_below (is_centred law) 128 ≡ true
centred_all Mu = refl
centred_all A = refl

pub record IsCentred (law : Law) (k : ℕ) : Type 0 where
  pub to : least_of law (suc k) ≡ magnitude_of law k + half_step_of law k
  pub from : magnitude_of law k ≤ least_of law k + half_step_of law k
  pub narrow : half_step_of law k ≤ 512
  pub middle : 1 ≤ k → least_of law k + half_step_of law k ≡ magnitude_of law k

centred_parts : (k next least value half : ℕ) →
    nat_eq next (value + half) && (nat_le value (least + half) &&
    (nat_le half 512 && (nat_eq k 0 || nat_eq (least + half) value))) ≡ true → (next ≡ value + half) ×
    (value ≤ least + half) × (half ≤ 512) × (1 ≤ k → least + half ≡ value)
centred_parts k next least value half h = (
  grind (arith, nat_tests),
  grind (arith, nat_tests),
  grind (arith, nat_tests),
  λ l. grind (arith, nat_tests),
)

pub centred : (law : Law) (k : ℕ) → k ≤ 127 → IsCentred law k
centred law k h =
    let parts = centred_parts k (least_of law (suc k)) (least_of law k) (magnitude_of law k) (half_step_of law k)
    (holds_below (is_centred law) 128 (centred_all law) k (omega arith)) in
    record { to = parts.0; from = parts.1; narrow = parts.2; middle = parts.3 }

end_is : (law : Law) → end_of law ≡ least_of law 128
end_is Mu = refl
end_is A = refl

last_below_end : (law : Law) → least_of law 127 ≤ end_of law
last_below_end Mu = omega arith
last_below_end A = omega arith

pub near : (law : Law) (v : ℤ) → unsigned_abs v ≤ end_of law →
    error_of law v ≤ half_step_of law (level_of law (unsigned_abs v))
near law v within =
    let n : ℕ = unsigned_abs v in
    let k : ℕ = level_of law n in
    let lies : LiesIn law n k = level_of_lies law n in
    let mid : IsCentred law k = centred law k lies.small in
    let apart = error_is law v k refl in
    let above : n ≤ least_of law (suc k) = elim (below_or_last k 127 lies.small) [
      | inl below ↦ (let under = lies.to below in omega arith)
      | inr same ↦ subst (λ (i : ℕ). n ≤ least_of law (suc i)) (sym same) (omega (arith, end_is law, within))
    ] in
    omega (arith, apart, lies.from, mid.to, mid.from, above)

pub clipped : (law : Law) (v : ℤ) → end_of law ≤ unsigned_abs v → error_of law v + magnitude_of law 127 ≡ unsigned_abs v
clipped law v past =
    let n : ℕ = unsigned_abs v in
    let lies : LiesIn law n 127 = record {
      small = omega arith;
      from = omega (arith, last_below_end law, past);
      to = λ h. absurd (omega arith);
    } in
    let apart = error_is law v 127 (LiesIn-level_of law n 127 lies) in
    let mid : IsCentred law 127 = centred law 127 (omega arith) in
    omega (arith, apart, mid.to, end_is law, past)

clip_is : (law : Law) (n d : ℕ) → n ≤ 32768 → d + magnitude_of law 127 ≡ n → d ≤ 644
clip_is Mu n d h is = omega arith
clip_is A n d h is = omega arith

pub farthest : (law : Law) (v : ℤ) → unsigned_abs v ≤ 32768 → error_of law v ≤ 644
farthest law v small =
    elim (cases_lt (end_of law) (unsigned_abs v)) [
      | inl past ↦ clip_is law (unsigned_abs v) (error_of law v) small (clipped law v (omega arith))
      | inr within ↦
          let lies = level_of_lies law (unsigned_abs v) in
          let mid = centred law (level_of law (unsigned_abs v)) lies.small in
          omega (arith, near law v within, mid.narrow)
    ]
