-- Lemmas about `IsFrame` for callers that store frames.
use Rattle.std.proofs.Common.{◌≡◌, ◌<◌, true, nat_lt, arith, ℕ, ℤ, List, length, get_or, replicate, pos, refl, inl, inr, subst, sym, rules}
use Rattle.std.specs.Int.{w16}
use Rattle.std.specs.Prelude.{FitsSigned, unsigned_abs}
use Rattle.std.proofs.lemmas.Int.{ints}
use Rattle.std.proofs.lemmas.Bool.{cases_lt}
use Rattle.std.proofs.lemmas.Bool.Decides.{nat_tests}
use Rattle.std.proofs.lemmas.List.{get_or_past}
use Rattle.std.proofs.lemmas.List.Elements.{All-replicate}
use Rattle.mg_g711.specs.declared.law.Law.{Law}
use Rattle.mg_g711.specs.declared.law.Law.TheVariants.{Mu, A}
use Rattle.mg_g711.specs.Law.{sample_of}
use Rattle.mg_g711.specs.Frame.{IsFrame}
use Rattle.mg_g711.proofs.Computed.{each_below, holds_below}

zero_fits : FitsSigned w16 (pos 0)
zero_fits = search rules

-- A list of 160 zeros is a frame.
pub silence_is_frame : IsFrame (replicate 160 (pos 0))
silence_is_frame = record { whole = refl; in_range = All-replicate (FitsSigned w16) 160 (pos 0) zero_fits }

-- The sample at any index fits in 16 bits. An index past the end reads as 0.
pub sample_fits : (samples : List ℤ) (i : ℕ) → IsFrame samples → FitsSigned w16 (get_or samples i (pos 0))
sample_fits samples i frame =
    elim (cases_lt i (length samples)) [
      | inl below ↦ frame.in_range i (pos 0) below
      | inr past ↦ subst (FitsSigned w16) (sym (get_or_past samples i (pos 0) past)) zero_fits
    ]

-- A number whose magnitude is below 32768 fits in 16 bits. So each byte decodes to a sample of 16 bits.
fits_by_size : (v : ℤ) → nat_lt (unsigned_abs v) 32768 ≡ true → FitsSigned w16 v
fits_by_size v h = let small : unsigned_abs v < 32768 = grind (arith, nat_tests) in omega (arith, ints)

all_fit : (law : Law) → each_below (λ b. nat_lt (unsigned_abs (sample_of law b)) 32768) 256 ≡ true
unfolding sample_of
all_fit Mu = refl
all_fit A = refl

pub decoded_fits : (law : Law) (b : ℕ) → b < 256 → FitsSigned w16 (sample_of law b)
decoded_fits law b h = fits_by_size (sample_of law b)
    (holds_below (λ i. nat_lt (unsigned_abs (sample_of law i)) 32768) 256 (all_fit law) b h)
