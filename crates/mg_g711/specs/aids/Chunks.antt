-- A list that is written in chunks.
use Rattle.std.specs.Prelude.{◌≡◌, ℕ, ◌+◌, ◌<◌, ◌≤◌, ℤ, pos, List, slice_index_or}

-- The n elements from index `at` on are written, and the others are unchanged.
pub record WritesChunk (n : ℕ) (old new : List ℤ) (at : ℕ) (f : ℕ → ℤ) : Type 0 where
  pub inside : (j : ℕ) → j < n → slice_index_or new (at + j) (pos 0) ≡ f j
  pub below : (k : ℕ) → k < at → slice_index_or new k (pos 0) ≡ slice_index_or old k (pos 0)
  pub above : (k : ℕ) → at + n ≤ k → slice_index_or new k (pos 0) ≡ slice_index_or old k (pos 0)
