-- The invariant of the stored totals.
use Rattle.std.specs.Prelude.{◌≡◌, ℕ, ◌*◌, ◌<◌, ◌≤◌, ℤ, List, [], length, slice_index_or, unsigned_abs}
use Rattle.mg_words.specs.Limits.{context_limit, termination_limit}
use Rattle.mg_sums.specs.Samples.{sample}
use Rattle.mg_sums.specs.Sums.{SumsState}
use Rattle.mg_sums.specs.aids.Sums.{AreValidSums, total_of}

-- The largest magnitude of a total: a sum of one sample for each termination, each of magnitude at most 32768.
abbrev pub total_limit : ℕ
total_limit = termination_limit * 32768

-- No number in the row has a magnitude above the limit.
abbrev pub AreNear : ℕ → List ℤ → Type 0
AreNear limit row = (i : ℕ) → i < 160 → unsigned_abs (sample row i) ≤ limit

-- Each stored total is the sum of its room's frames, without saturation.
pub record AreTotals (kept : SumsState) (totals : List (List ℤ)) : Type 0 where
  pub valid : AreValidSums kept
  pub rooms : length totals ≡ context_limit
  pub sums : (room i : ℕ) → room < context_limit → i < 160 →
      sample (slice_index_or totals room []) i ≡ total_of kept room i
