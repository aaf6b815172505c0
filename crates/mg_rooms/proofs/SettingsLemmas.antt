-- Lemmas on settings.
use Rattle.mg_rooms.proofs.Common.{◌≡◌, List, [], ◌∷◌, Option, Some, Ok, Err, refl}
use Rattle.std.specs.Option.{option_map_or}
use Rattle.mg_words.specs.declared.error_number.ErrorNumber.TheVariants.{NoMedia}
use Rattle.mg_sdp.specs.declared.offer.Offer.{Offer}
use Rattle.mg_sdp.specs.declared.chosen.Chosen.{Chosen}
use Rattle.mg_rooms.specs.Settings.{offered}

-- The setting after an offer with at least one alternative.
pub offered-some : (choice : List (Option Offer) → Option Chosen) (alternatives : List (Option Offer)) →
    (alternatives ≡ [] → ⊥) → offered choice alternatives ≡
    option_map_or (λ chosen. Ok (Some chosen)) (choice alternatives) (Err NoMedia)
offered-some choice [] h = absurd (h refl)
offered-some choice (first ∷ others) h = refl

pub ruleset rules = (offered-some)
