-- The result of reading as a function, for definitions that use it. By the contract of read_sessions, it is the only
-- result that Alternatives allows.
use Rattle.std.specs.Prelude.{ℕ, List, [], ◌∷◌, ◌++◌, Option, Result, if◌then◌else◌}
use Rattle.mg_sdp.specs.declared.fault.SdpFault.{SdpFault}
use Rattle.mg_sdp.specs.declared.offer.Offer.{Offer}
use Rattle.mg_sdp.specs.Lines.{content_lines}
use Rattle.mg_sdp.specs.Alternatives.{is_version, offers_read}

-- The lines of an alternative as a list of one alternative, or an empty list if there is no line.
abbrev pub one_alternative : List (List ℕ) → List (List (List ℕ))
one_alternative [] = []
one_alternative (line ∷ lines) = (line ∷ lines) ∷ []

-- The alternatives that result if the remaining lines follow these lines of the current alternative.
abbrev pub alternatives_after : List (List ℕ) → List (List ℕ) → List (List (List ℕ))
alternatives_after current [] = one_alternative current
alternatives_after current (line ∷ lines) =
    if is_version line then one_alternative current ++ alternatives_after (line ∷ []) lines
    else alternatives_after (current ++ line ∷ []) lines

unfoldable pub sessions_of : List ℕ → Result (List (Option Offer)) SdpFault
sessions_of content =
    offers_read (content_lines content) (alternatives_after [] (content_lines content))
