-- The level of a magnitude is the minimum of the lines of all exponents.
use Rattle.std.proofs.Common.{◌≡◌, ℕ, Bool, ◌+◌, ◌-◌, ◌/◌, ◌<◌, ◌≤◌, min, arith, nat_eq, refl, suc, inl, inr, true, ◌∙◌, sym, ap}
use Rattle.std.proofs.lemmas.Bool.{cases_lt, eqb-true}
use Rattle.mg_g711.specs.declared.law.Law.{Law}
use Rattle.mg_g711.specs.declared.law.Law.TheVariants.{Mu, A}
use Rattle.mg_g711.specs.Law.{least_of, level_of}
use Rattle.mg_g711.proofs.Computed.{each_below, holds_below}
use Rattle.mg_g711.proofs.Levels.{LiesIn, level_of_lies}

-- The minimum of the lines of the exponents from 1 to 7.
abbrev upper_lines : ℕ → ℕ
upper_lines x = min (min (min (min (min (min (x / 16) (x / 32 + 16)) (x / 64 + 32)) (x / 128 + 48)) (x / 256 + 64))
    (x / 512 + 80)) (x / 1024 + 96)

-- The minimum of the lines, for each law.
abbrev least_line : Law → ℕ → ℕ
least_line Mu v = min (min (v + 132) 32767 / 8 - 16) (upper_lines (min (v + 132) 32767))
least_line A v = upper_lines (min v 32767)

min_grows : (a b c d : ℕ) → a ≤ c → b ≤ d → min a b ≤ min c d
min_grows a b c d g h = omega arith

upper_lines_grows : (x y : ℕ) → x ≤ y → upper_lines x ≤ upper_lines y
upper_lines_grows x y h =
    min_grows _ _ _ _ (min_grows _ _ _ _ (min_grows _ _ _ _
    (min_grows _ _ _ _ (min_grows _ _ _ _ (min_grows (x / 16) (x / 32 + 16) (y / 16) (y / 32 + 16) (omega arith)
    (omega arith)) (omega arith)) (omega arith)) (omega arith)) (omega arith)) (omega arith)

least_line_grows : (law : Law) (v w : ℕ) → v ≤ w → least_line law v ≤ least_line law w
least_line_grows Mu v w h = min_grows _ _ _ _ (omega arith)
    (upper_lines_grows (min (v + 132) 32767) (min (w + 132) 32767) (omega arith))
least_line_grows A v w h = upper_lines_grows (min v 32767) (min w 32767) (omega arith)

least_line_small : (law : Law) (v : ℕ) → least_line law v ≤ 127
least_line_small Mu v = omega arith
least_line_small A v = omega arith

-- These tests check, for each level, that the minimum of the lines is the level at its first magnitude and, except for
-- level 127, at its last magnitude.
abbrev right_at_first : Law → ℕ → Bool
right_at_first law k = nat_eq (least_line law (least_of law k)) k

abbrev right_at_last : Law → ℕ → Bool
right_at_last law k = nat_eq (least_line law (least_of law (suc k) - 1)) k

first_all : (law : Law) → each_below (right_at_first law) 128 ≡ true
first_all Mu = refl
first_all A = refl

last_all : (law : Law) → each_below (right_at_last law) 127 ≡ true
last_all Mu = refl
last_all A = refl

first_is : (law : Law) (k : ℕ) → k < 128 → least_line law (least_of law k) ≡ k
first_is law k h = eqb-true (least_line law (least_of law k)) k
    (holds_below (right_at_first law) 128 (first_all law) k h)

last_is : (law : Law) (k : ℕ) → k < 127 → least_line law (least_of law (suc k) - 1) ≡ k
last_is law k h = eqb-true (least_line law (least_of law (suc k) - 1)) k
    (holds_below (right_at_last law) 127 (last_all law) k h)

-- The minimum of the lines is the level everywhere, since the minimum never decreases.
right_in : (law : Law) (v k : ℕ) → LiesIn law v k → least_line law v ≡ k
right_in law v k lies =
    let from : least_line law (least_of law k) ≤ least_line law v = least_line_grows law (least_of law k) v lies.from in
    let first : least_line law (least_of law k) ≡ k = first_is law k (let s = lies.small in omega arith) in
    let top : least_line law v ≤ 127 = least_line_small law v in
    elim (cases_lt k 127) [
      | inl below ↦
          let to : least_line law v ≤ least_line law (least_of law (suc k) - 1) =
          least_line_grows law v (least_of law (suc k) - 1) (let t = lies.to below in omega arith) in
          let end : least_line law (least_of law (suc k) - 1) ≡ k = last_is law k below in
          omega arith
      | inr greatest ↦ omega arith
    ]

level_is : (law : Law) (v : ℕ) → level_of law v ≡ least_line law v
level_is law v = sym (right_in law v (level_of law v) (level_of_lies law v))

pub level_a_is : (v : ℕ) → level_of A v ≡ upper_lines (min v 32767)
level_a_is v = level_is A v

-- With mu-law's bias, all lines except the first are the same as for A-law.
pub level_mu_is : (v : ℕ) → level_of Mu v ≡ min (min (v + 132) 32767 / 8 - 16) (level_of A (min (v + 132) 32767))
level_mu_is v =
    let x : ℕ = min (v + 132) 32767 in
    let limited : min x 32767 ≡ x = omega arith in
    level_is Mu v ∙ ap (λ (n : ℕ). min (x / 8 - 16) n) (sym (level_a_is x ∙ ap (λ (y : ℕ). upper_lines y) limited))
