-- How a command changes a termination's settings (RFC 3525, sections 7.1.4 to 7.1.8). Settings that a command does not
-- name are unchanged. The limits on the depth are this project's own.
use Rattle.std.specs.Prelude.{ℕ, min, max, List, [], ◌∷◌, Option, Some, None, Result, Ok, Err}
use Rattle.std.specs.Option.{option_map_or}
use Rattle.mg_sdp.specs.declared.offer.Offer.{Offer}
use Rattle.mg_sdp.specs.declared.chosen.Chosen.{Chosen}
use Rattle.mg_words.specs.declared.error_number.ErrorNumber.{ErrorNumber}
use Rattle.mg_words.specs.declared.error_number.ErrorNumber.TheVariants.{NoMedia}
use Rattle.mg_words.specs.Limits.{min_depth, max_depth}
use Rattle.mg_rooms.specs.declared.media_setting.MediaSetting.{MediaSetting}
use Rattle.mg_rooms.specs.declared.media_setting.MediaSetting.TheVariants.{Clear, Offer as Offered}
use Rattle.mg_rooms.specs.declared.media_setting.MediaSetting.TheVariants.{Unreadable}

-- The depth after a command, in frames of 20 ms: the requested depth, limited to 2–16, or the old depth if none is
-- requested.
abbrev pub depth_after : Option ℕ → ℕ → ℕ
depth_after None old = old
depth_after (Some depth) old = min (max depth min_depth) max_depth

-- The setting after an offer: the alternative that is chosen. If there are alternatives, but none can be chosen, the
-- command is refused. An offer without alternatives is blank, and removes the old setting.
abbrev pub offered : (List (Option Offer) → Option Chosen) → List (Option Offer)
    → Result (Option Chosen) ErrorNumber
offered choice [] = Ok None
offered choice (first ∷ others) =
    option_map_or (λ chosen. Ok (Some chosen)) (choice (first ∷ others)) (Err NoMedia)

abbrev pub media_after : (List (Option Offer) → Option Chosen) → Option MediaSetting
    → Option Chosen → Result (Option Chosen) ErrorNumber
media_after choice None old = Ok old
media_after choice (Some Clear) old = Ok None
media_after choice (Some (Offered alternatives)) old = offered choice alternatives
media_after choice (Some Unreadable) old = Err NoMedia
