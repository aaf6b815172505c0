-- The alternatives of a descriptor (RFC 3525, section 7.1.8): descriptions one after another, each starting with its v=
-- line, which only the first may lack.
use Rattle.std.specs.Prelude.{◌≡◌, ℕ, not, nat_lt, Bool, List, [], ◌∷◌, IsTrue, Option, is_some}
use Rattle.std.specs.Prelude.{Result, Ok, Err, map, length, drop, if◌then◌else◌}
use Rattle.std.specs.List.{list_all, flat_map, AllByRecursion}
use Rattle.std.specs.Str.{byte}
use Rattle.mg_words.specs.Limits.{alternative_limit}
use Rattle.mg_sdp.specs.declared.fault.SdpFault.{SdpFault}
use Rattle.mg_sdp.specs.declared.fault.SdpFault.TheVariants.{Line, TooMany}
use Rattle.mg_sdp.specs.declared.offer.Offer.{Offer}
use Rattle.mg_sdp.specs.Lines.{is_line, line_value}
use Rattle.mg_sdp.specs.Offer.{offer_of}

-- Whether a line is a v= line.
abbrev pub is_version : List ℕ → Bool
is_version line = is_some (line_value (byte "v") line)

-- The lines are an alternative: there is a first line, and no other line is a v= line.
abbrev pub IsAlternative : List (List ℕ) → Type 0
IsAlternative [] = ⊥
IsAlternative (line ∷ lines) = IsTrue (list_all (λ l. not (is_version l)) lines)

abbrev pub BeginsWithVersion : List (List ℕ) → Type 0
BeginsWithVersion [] = ⊥
BeginsWithVersion (line ∷ lines) = IsTrue (is_version line)

-- Together, the alternatives are the lines, in order. Each alternative except the first starts with
-- its v= line.
pub record AreAlternatives (lines : List (List ℕ))
    (alternatives : List (List (List ℕ))) : Type 0 where
  pub joined : flat_map (λ alternative. alternative) alternatives ≡ lines
  pub each : AllByRecursion IsAlternative alternatives
  pub later : AllByRecursion BeginsWithVersion (drop 1 alternatives)

-- The result of reading: the offers of the alternatives, or a fault if a line is malformed or if more than eight
-- alternatives exist.
abbrev pub offers_read : List (List ℕ) → List (List (List ℕ)) →
    Result (List (Option Offer)) SdpFault
offers_read lines alternatives =
    if not (list_all is_line lines) then Err Line
    else (if nat_lt alternative_limit (length alternatives) then Err TooMany
    else Ok (map offer_of alternatives))
