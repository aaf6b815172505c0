-- Counted ticks. When a gateway starts, it appends the line `# counted ticks` to its journal. After this line, a line
-- such as `ticks 12` is read as twelve `tick` lines. Anywhere else, for example in a recording, it is a bad line.
use Rattle.std.specs.Prelude.{◌≡◌, ℕ, ◌^◌, ◌<◌, ◌&&◌, ◌||◌, not, Bool, true, false, List, [], ◌∷◌, ◌++◌, codes, drop, take}
use Rattle.std.specs.Prelude.{decimal, replicate, Option, Some, None, if◌then◌else◌}
use Rattle.std.specs.Option.{option_map_or}
use Rattle.std.specs.Str.{bytes_eq}
use Rattle.mg_words.specs.Numbers.{decimal_of}
use Rattle.mg_lines.specs.Lines.{lines_of}
use Rattle.mg_core.specs.declared.event.Event.{Event}
use Rattle.mg_core.specs.declared.event.Event.TheVariants.{Tick}
use Rattle.mg_core.specs.Script.{events_of}

-- Whether this is the line after which ticks are counted.
abbrev pub is_mark : List ℕ → Bool
is_mark line = bytes_eq line (codes "# counted ticks")

-- The number in a line such as `ticks 12`: without leading zeros, from 1 to 2^64 - 1.
abbrev pub ticks_in : List ℕ → Option ℕ
ticks_in line =
    if bytes_eq (take 6 line) (codes "ticks ") && not (bytes_eq (take 1 (drop 6 line)) (codes "0"))
    then decimal_of 20 18446744073709551615 (drop 6 line) else None

-- The lines that a line is read as. `counts` says whether ticks are counted there.
abbrev pub lines_in : (counts : Bool) → List ℕ → List (List ℕ)
lines_in false line = line ∷ []
lines_in true line = option_map_or (λ n. replicate n (codes "tick")) (ticks_in line) (line ∷ [])

-- The lines that these lines are read as. `counts` says whether ticks are counted in the first line.
unfoldable pub expanded : (counts : Bool) → List (List ℕ) → List (List ℕ)
expanded counts [] = []
expanded counts (line ∷ lines) = lines_in counts line ++ expanded (counts || is_mark line) lines

-- The lines that a journal's text is read as.
abbrev pub journal_lines : (ended : Bool) → List ℕ → List (List ℕ)
journal_lines ended text = expanded false (lines_of ended text)

-- The line with which a gateway appends ticks to its journal.
abbrev pub ticks_line : ℕ → List ℕ
ticks_line count = codes "ticks " ++ (decimal count ++ codes "\n")

-- ## Laws

-- Where ticks are counted, the line with which a gateway appends ticks is read as these ticks.
abbrev pub CountsAreTicks : Type 0
CountsAreTicks =
    (count : ℕ) → 0 < count → count < 2 ^ 64
    → events_of (expanded true (lines_of true (ticks_line count))) ≡ Some (replicate count Tick)

-- A script in which no line counts ticks is read unchanged, whether or not ticks are counted.
abbrev pub OtherScriptsStay : Type 0
OtherScriptsStay =
    (counts : Bool) (lines : List (List ℕ)) (events : List Event)
    → events_of lines ≡ Some events → expanded counts lines ≡ lines
