-- Lines that contain a hash of the text before them.
use Rattle.std.specs.Prelude.{◌≡◌, ℕ, zero, suc, ◌+◌, ◌&&◌, ◌||◌, ◌==◌, length, Bool, true, false, List, [], ◌∷◌, ◌++◌}
use Rattle.std.specs.Prelude.{Option, Some, None, codes, drop, IfSome, if◌then◌else◌}
use Rattle.std.specs.List.{starts_with, ends_with}
use Rattle.std.specs.Option.{option_or}
use Rattle.std.specs.Prelude.{bytes_eq, nat_eq}
use Rattle.std.specs.Io.BufRead.{take_through, drop_through}
use Rattle.hex.specs.Hex.{encode_lower}
use Rattle.sha2.specs.Sha256.{sha256}
use Rattle.mg_chain.specs.declared.linked.Linked.{Linked}
use Rattle.mg_chain.specs.declared.seals.Seals.{Seals}

-- Whether a line is a seal, valid or not. An incomplete line is not a seal.
abbrev pub is_seal : List ℕ → Bool
is_seal line = starts_with nat_eq line (codes "# sha256 ") && ends_with nat_eq line (10 ∷ [])

-- Whether the last line is complete. Empty text has no incomplete line.
abbrev pub is_whole : List ℕ → Bool
is_whole [] = true
is_whole (b ∷ []) = b == 10
is_whole (b ∷ c ∷ cs) = is_whole (c ∷ cs)

-- Whether any line after the first begins like a seal.
unfoldable pub has_mark : List ℕ → Bool
has_mark [] = false
has_mark (b ∷ bs) = starts_with nat_eq (b ∷ bs) (codes "\n# sha256 ") || has_mark bs

-- The part of a text that the next seal hashes. It begins with the last line that begins like a seal, valid or not.
-- Without such a line, it is the whole text.
unfoldable pub last_part : List ℕ → List ℕ
last_part [] = []
last_part (b ∷ bs) = if has_mark (b ∷ bs) then last_part bs else b ∷ bs

-- The end of the seal of a part: its SHA-256 in lower-case hexadecimal digits, and a line feed.
abbrev pub seal_end : List ℕ → List ℕ
seal_end part = encode_lower (sha256 part) ++ 10 ∷ []

-- The seal of a part.
abbrev pub seal_of : List ℕ → List ℕ
seal_of part = codes "# sha256 " ++ seal_end part

-- The line is a seal of the last part of some text. If `known` has a value, the text is that value.
abbrev pub IsSeal : Option (List ℕ) → List ℕ → Type 0
IsSeal known line = (part : List ℕ) × (line ≡ seal_of part) × IfSome known (λ text. last_part text ≡ part)

-- These bytes are the end of a seal of the last part of some text. If `known` has a value, the text is that value.
abbrev pub IsSealEnd : Option (List ℕ) → List ℕ → Type 0
IsSealEnd known end = (part : List ℕ) × (end ≡ seal_end part) × IfSome known (λ text. last_part text ≡ part)

-- The line says which text the lines after it follow: it has the end of a seal of that text's last part. If `known` has
-- a value, the text is that value.
abbrev pub IsFollowing : Option (List ℕ) → List ℕ → Type 0
IsFollowing known line = (end : List ℕ) × IsSealEnd known end × (line ≡ codes "# follows " ++ end)

-- The counts after one more seal, valid or not. Seals after an invalid seal are not counted.
abbrev pub judged : Bool → ℕ → Seals → (wrong : Option ℕ) → Seals
judged is_right number seals (Some first) = seals
judged true number seals None = record seals { count = seals.count + 1; right = Some number }
judged false number seals None = record seals { wrong = Some number }

-- The end of a line that says which text the lines after it follow, or `None` for any other line.
abbrev pub followed_in : List ℕ → Option (List ℕ)
followed_in line =
    if starts_with nat_eq line (codes "# follows ") && length line == 75 then Some (drop 10 line) else None

-- The counts after one more line, with this number and with the text `before` in front of it. The first line that says
-- what the text follows counts.
abbrev pub after_line : Seals → ℕ → (before line : List ℕ) → Seals
after_line seals number before line = record
    (if is_seal line then judged (bytes_eq (drop 9 line) (seal_end (last_part before))) number seals seals.wrong else seals)
    { lines = number; follows = option_or seals.follows (followed_in line) }

-- The counts after the lines of the rest of a text, whose first line has this number. A line ends after its line feed,
-- or at the end of the text. `most` bounds the number of lines.
unfoldable pub after_lines : (most : ℕ) → Seals → ℕ → (before rest : List ℕ) → Seals
after_lines zero seals number before rest = seals
after_lines (suc most) seals number before [] = seals
after_lines (suc most) seals number before (b ∷ bs) =
    after_lines most (after_line seals number before (take_through 10 (b ∷ bs))) (number + 1)
    (before ++ take_through 10 (b ∷ bs)) (drop_through 10 (b ∷ bs))

-- The counts before the first line.
abbrev pub no_seals : Seals
no_seals = record { count = 0; right = None; wrong = None; lines = 0; follows = None }

-- The counts for all lines of a text.
abbrev pub seals_of : List ℕ → Seals
seals_of text = after_lines (length text) no_seals 1 [] text

-- The counts for all lines of a text, and the end of the seal that would follow it.
abbrev pub IsLinked : List ℕ → Linked → Type 0
IsLinked text linked = (linked.seals ≡ seals_of text) × (linked.end ≡ seal_end (last_part text))
