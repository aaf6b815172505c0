-- A recording with seals.
use Rattle.std.specs.Prelude.{ℕ, zero, suc, ◌+◌, ◌==◌, List, [], ◌∷◌, ◌++◌, length, codes, bytes_eq, if◌then◌else◌}
use Rattle.std.specs.Prelude.{Bool, ◌&&◌, not, nat_eq}
use Rattle.std.specs.Io.BufRead.{take_through, drop_through}
use Rattle.std.specs.List.{ends_with}
use Rattle.mg_chain.specs.Seals.{is_seal, last_part, seal_of}

-- The number of ticks in a minute after this line, given the number before the line.
abbrev pub ticks_with : ℕ → (line : List ℕ) → ℕ
ticks_with ticks line = if bytes_eq line (codes "tick\n") then ticks + 1 else ticks

-- The number of ticks in the current minute, which is 0 once the minute is over.
abbrev pub ticks_left : ℕ → ℕ
ticks_left ticks = if ticks == 3000 then 0 else ticks

-- The seal before the next line: it is due at the end of a minute, unless the next line is a seal, valid or not.
abbrev pub seal_before : ℕ → (printed line : List ℕ) → List ℕ
seal_before ticks printed line = if ticks == 3000 && not (is_seal line) then seal_of (last_part printed) else []

-- The output after this line, with a seal before the line if a seal is due.
abbrev pub printed_with : ℕ → (printed line : List ℕ) → List ℕ
printed_with ticks printed line = (printed ++ seal_before ticks printed line) ++ line

-- The last line of a text, complete or not.
unfoldable pub last_line : List ℕ → List ℕ
last_line [] = []
last_line (b ∷ bs) = if length (drop_through 10 (b ∷ bs)) == 0 then b ∷ bs else last_line bs

-- Whether a last line is complete and isn't a seal, valid or not.
abbrev pub needs_seal : List ℕ → Bool
needs_seal line = ends_with nat_eq line (10 ∷ []) && not (is_seal line)

-- The output at the end of a recording: a last seal is added if the last line needs one.
abbrev pub ended : (printed : List ℕ) → List ℕ
ended printed = if needs_seal (last_line printed) then printed ++ seal_of (last_part printed) else printed

-- The whole output, given the number of ticks in this minute so far, the output so far, and the rest of the recording.
-- The recording has at most as many lines as bytes.
unfoldable pub sealed_with : (most : ℕ) → ℕ → (printed rest : List ℕ) → List ℕ
sealed_with zero ticks printed rest = ended printed
sealed_with (suc most) ticks printed [] = ended printed
sealed_with (suc most) ticks printed (b ∷ bs) =
    sealed_with most (ticks_with (ticks_left ticks) (take_through 10 (b ∷ bs)))
    (printed_with ticks printed (take_through 10 (b ∷ bs))) (drop_through 10 (b ∷ bs))

-- The recording with its seals.
abbrev pub sealed : List ℕ → List ℕ
sealed text = sealed_with (length text) 0 [] text
