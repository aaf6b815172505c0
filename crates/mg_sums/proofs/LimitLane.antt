-- The two comparisons that saturate a sum, in one lane.
use Rattle.std.proofs.Common.{◌≡◌, ℕ, ℤ, pos, negsuc, Bool, true, false, cond, refl, ap, sym, subst, ◌∙◌, arith, FitsSigned, to_z, of_z}
use Rattle.std.specs.Int.{w16, w32}
use lib.Lanes.{top}
use lib.Signed.{lt_z}
use Rattle.std.proofs.lemmas.Int.{ints, clamps, to_z-of_z}
use Rattle.mg_sums.specs.Samples.{nearest_sample}

abbrev raised : ℤ → ℤ
raised x = cond (lt_z x (negsuc 32767)) (negsuc 32767) x

abbrev lowered : ℤ → ℤ
lowered y = cond (lt_z y (pos 32767)) y (pos 32767)

lowered_raised : (x : ℤ) → lowered (raised x) ≡ nearest_sample x
lowered_raised x = grind (arith, ints, clamps)

fits_raised : (x : ℤ) → FitsSigned w32 x → FitsSigned w32 (raised x)
fits_raised x fits = grind (arith, ints)

fits_limited : (x : ℤ) → FitsSigned w16 (lowered (raised x))
fits_limited x = grind (arith, ints)

-- The top bit of a comparison chooses the value of a lane of 32 bits.
picked : (b : Bool) (x y : ℤ) → cond (top 31 (cond b 4294967295 0)) (of_z w32 y) (of_z w32 x) ≡ of_z w32 (cond b y x)
picked true x y = refl
picked false x y = refl

abbrev above : ℤ → ℕ
above x = cond (top 31 (cond (lt_z (to_z w32 (of_z w32 x)) (negsuc 32767)) 4294967295 0)) 4294934528 (of_z w32 x)

above_is : (x : ℤ) → FitsSigned w32 x → above x ≡ of_z w32 (raised x)
above_is x fits = rw (to_z-of_z w32 x fits) (picked (lt_z x (negsuc 32767)) x (negsuc 32767))

abbrev between : ℤ → ℕ
between x = cond (top 31 (cond (lt_z (to_z w32 (above x)) (pos 32767)) 4294967295 0)) (above x) 32767

between_is : (x : ℤ) → FitsSigned w32 x → between x ≡ of_z w32 (lowered (raised x))
between_is x fits = rw (above_is x fits) (rw (to_z-of_z w32 (raised x) (fits_raised x fits))
    (picked (lt_z (raised x) (pos 32767)) (pos 32767) (raised x)))

widened : (z : ℤ) → FitsSigned w16 z → FitsSigned w32 z
widened z h = grind arith

between_holds : (x : ℤ) → FitsSigned w32 x → to_z w32 (between x) ≡ lowered (raised x)
between_holds x fits = ap (to_z w32) (between_is x fits) ∙
    to_z-of_z w32 (lowered (raised x)) (widened (lowered (raised x)) (fits_limited x))

pub limit_lane : (x : ℤ) → FitsSigned w32 x → to_z w16 (of_z w16 (to_z w32 (between x))) ≡ nearest_sample x
limit_lane x fits =
    ap (λ (z : ℤ). to_z w16 (of_z w16 z)) (between_holds x fits) ∙
    (to_z-of_z w16 (lowered (raised x)) (fits_limited x) ∙ lowered_raised x)

pub limit_asked : (x : ℤ) → FitsSigned w32 x → FitsSigned w16 (to_z w32 (between x))
limit_asked x fits = subst (λ (z : ℤ). FitsSigned w16 z) (sym (between_holds x fits)) (fits_limited x)
