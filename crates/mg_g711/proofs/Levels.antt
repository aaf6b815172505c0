-- The level in which a magnitude lies.
use Rattle.std.proofs.Common.{◌≡◌, ℕ, ◌<◌, ◌≤◌, refl, arith, sym, subst, suc}
use Rattle.mg_g711.specs.declared.law.Law.{Law}
use Rattle.mg_g711.specs.declared.law.Law.TheVariants.{Mu, A}
use Rattle.mg_g711.specs.Law.{least_of, level_of, magnitude_of}
use Rattle.mg_g711.proofs.Growing.{GrowsUpTo, GrowsUpTo-tested, count_within, last_within}

pub least_of_grows : (law : Law) → GrowsUpTo 127 (least_of law)
least_of_grows Mu = GrowsUpTo-tested 127 (least_of Mu) refl
least_of_grows A = GrowsUpTo-tested 127 (least_of A) refl

pub magnitude_of_grows : (law : Law) → GrowsUpTo 127 (magnitude_of law)
magnitude_of_grows Mu = GrowsUpTo-tested 127 (magnitude_of Mu) refl
magnitude_of_grows A = GrowsUpTo-tested 127 (magnitude_of A) refl

least_of_first : (law : Law) (v : ℕ) → least_of law 0 ≤ v
least_of_first Mu v = omega arith
least_of_first A v = omega arith

-- The magnitude v lies in level k.
pub record LiesIn (law : Law) (v k : ℕ) : Type 0 where
  pub small : k ≤ 127
  pub from : least_of law k ≤ v
  pub to : k < 127 → v < least_of law (suc k)

pub LiesIn-level_of : (law : Law) (v k : ℕ) → LiesIn law v k → level_of law v ≡ k
unfolding level_of
LiesIn-level_of law v k lies = count_within 127 (least_of law) (least_of_grows law) v k lies.small lies.from lies.to

pub level_of_lies : (law : Law) (v : ℕ) → LiesIn law v (level_of law v)
level_of_lies law v =
    let (k, small, from, to) = last_within (least_of law) v 127 (least_of_first law v) in
    let lies : LiesIn law v k = record { small = small; from = from; to = to } in
    subst (λ (i : ℕ). LiesIn law v i) (sym (LiesIn-level_of law v k lies)) lies
