-- The media and statistics that a reply reports about a termination (RFC 3525, Annex B.2, mediaDescriptor and
-- statisticsDescriptor).
use Rattle.std.specs.Prelude.{ℕ, ◌*◌, List, [], ◌∷◌, ◌++◌, Option, Some, None, codes, decimal}
use Rattle.mg_sdp.specs.declared.chosen.Chosen.{Chosen}
use Rattle.mg_sdp.specs.Written.{session_text}
use Rattle.mg_words.specs.Mode.{mode_text}
use Rattle.mg_reply.specs.declared.control.Control.{Control}
use Rattle.mg_reply.specs.declared.media.Media.{Media}
use Rattle.mg_reply.specs.declared.media.Media.TheVariants.{Local, Whole}
use Rattle.mg_words.specs.declared.stats.Stats.{Stats}
use Rattle.mg_reply.specs.declared.outcome.Parts.{Parts}
use Rattle.mg_reply.specs.Listed.{grouped}

-- The text of the mode and of the depth of the play list. The depth is written in milliseconds, 20 for each frame.
unfoldable pub control_text : Control → List ℕ
control_text c =
    codes "LocalControl{Mode=" ++ (mode_text c.mode
    ++ (codes ",nt/jit=" ++ (decimal (20 * c.depth) ++ codes "}")))

unfoldable pub local_text : Chosen → List ℕ
local_text chosen = codes "Local{" ++ (session_text chosen ++ codes "}")

unfoldable pub remote_text : Chosen → List ℕ
remote_text chosen = codes "Remote{" ++ (session_text chosen ++ codes "}")

-- A list with the text of an optional part. The list is empty if the part is missing.
abbrev pub optional : {A : Type 0} → (A → List ℕ) → Option A → List (List ℕ)
optional text None = []
optional text (Some a) = text a ∷ []

-- The parts of the stream that a reply reports.
abbrev pub reported_stream : Media → List (List ℕ)
reported_stream (Local chosen) = local_text chosen ∷ []
reported_stream (Whole control local remote) =
    control_text control ∷ (optional local_text local ++ optional remote_text remote)

unfoldable pub media_text : Media → List ℕ
media_text media = codes "Media{Stream=1" ++ (grouped (reported_stream media) ++ codes "}")

unfoldable pub statistics_text : Stats → List ℕ
statistics_text s =
    codes "Statistics{rtp/ps=" ++ (decimal s.ps ++ (codes ",rtp/pr=" ++ (decimal s.pr
    ++ (codes ",nt/os=" ++ (decimal s.os ++ (codes ",nt/or=" ++ (decimal s.or_ ++ codes "}")))))))

-- The parts that a reply reports about a command: media, then statistics.
abbrev pub reported_parts : Parts → List (List ℕ)
reported_parts parts = optional media_text parts.media ++ optional statistics_text parts.statistics
