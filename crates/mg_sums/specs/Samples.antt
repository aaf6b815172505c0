-- Rows of numbers and their sums (not from a standard).
use Rattle.std.specs.Prelude.{ℕ, ℤ, pos, negsuc, ◌+ℤ◌, List, [], ◌∷◌, slice_index_or, Option, Some}
use Rattle.std.specs.Prelude.{None, replicate}
use Rattle.std.specs.Int.{int_min, int_max}

-- The number at an index of a row, or 0 past the end of the row.
abbrev pub sample : List ℤ → ℕ → ℤ
sample row i = slice_index_or row i (pos 0)

-- The sum of one number for each item.
unfoldable pub sum_of : {A : Type 0} → (A → ℤ) → List A → ℤ
sum_of f [] = pos 0
sum_of f (x ∷ xs) = f x +ℤ sum_of f xs

-- The nearest number from -32768 to 32767.
abbrev pub nearest_sample : ℤ → ℤ
nearest_sample v = int_max (negsuc 32767) (int_min v (pos 32767))

-- A row of 160 zeros.
abbrev pub silence : List ℤ
silence = replicate 160 (pos 0)

-- The frame, or silence for `None`.
abbrev pub frame_or_silence : Option (List ℤ) → List ℤ
frame_or_silence None = silence
frame_or_silence (Some frame) = frame
