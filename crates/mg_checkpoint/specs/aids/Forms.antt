-- The parts of the lines of a checkpoint.
use Rattle.std.specs.Prelude.{ℕ, suc, ◌==◌, false, List, [], ◌∷◌, ◌++◌, codes, flat_map}
use Rattle.std.specs.Prelude.{if◌then◌else◌}
use Rattle.std.specs.Prelude.{Option, Some, None}
use Rattle.std.specs.Fmt.{digits_onto}
use Rattle.mg_g711.specs.declared.law.Law.{Law}
use Rattle.mg_g711.specs.declared.law.Law.TheVariants as laws
use Rattle.mg_core.specs.Script.{escape_of, escaped}
use Rattle.mg_sdp.specs.declared.chosen.Chosen.{Chosen}

-- A number in decimal, without leading zeros. It equals `decimal` up to 64 bits, and is defined for every number.
unfoldable pub numeral : ℕ → List ℕ
numeral n = digits_onto (suc n) 10 false n []

-- A label, a number and a space.
abbrev pub numbered : List ℕ → ℕ → List ℕ
numbered label n = label ++ (numeral n ++ codes " ")

-- A label and a number at the end of a line.
abbrev pub closing : List ℕ → ℕ → List ℕ
closing label n = label ++ (numeral n ++ codes "\n")

-- The names of terminations, each followed by a space.
abbrev pub names : List ℕ → List ℕ
names numbers = flat_map (numbered (codes "RTP/")) numbers

-- The other numbers of an address, each after a dot, and a colon.
abbrev pub after_dots : List ℕ → List ℕ
after_dots [] = codes ":"
after_dots (n ∷ ns) = codes "." ++ (numeral n ++ after_dots ns)

-- An address and a colon.
abbrev pub dotted : List ℕ → List ℕ
dotted [] = codes ":"
dotted (n ∷ ns) = numeral n ++ after_dots ns

abbrev pub law_text : Law → List ℕ
law_text laws.Mu = codes "PCMU "
law_text laws.A = codes "PCMA "

-- The address, the port and the law of a termination's Local or Remote, or `none`.
abbrev pub media_text : Option Chosen → List ℕ
media_text None = codes "none "
media_text (Some c) =
    codes "at " ++ (dotted c.address ++ (numbered [] c.port ++ law_text c.law))

-- A byte of a word, which has no spaces.
abbrev pub word_escape : ℕ → List ℕ
word_escape b = if b == 32 then codes "\\s" else escape_of b

-- Bytes as a word, and a space.
abbrev pub word : List ℕ → List ℕ
word bytes = flat_map word_escape bytes ++ codes " "

-- Bytes as the rest of a line.
abbrev pub rest_of_line : List ℕ → List ℕ
rest_of_line bytes = escaped bytes ++ codes "\n"
