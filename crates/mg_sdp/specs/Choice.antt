-- The alternative that is chosen (RFC 3525, section 7.1.8): the first acceptable one.
use Rattle.std.specs.Prelude.{ℕ, ◌==◌, ◌&&◌, not, Bool, true, false, List, Option, Some}
use Rattle.std.specs.Prelude.{is_some, unwrap_or, find}
use Rattle.std.specs.List.{filter_map}
use Rattle.std.specs.Str.{bytes_eq}
use Rattle.std.specs.Option.{option_map, option_map_or, option_and_then}
use Rattle.mg_words.specs.OptionSteps.{◌>>=◌}
use Rattle.mg_g711.specs.declared.law.Law.TheVariants.{Mu}
use Rattle.mg_sdp.specs.declared.offer.Offer.{Offer}
use Rattle.mg_sdp.specs.declared.chosen.Chosen.{Chosen}

-- Whether the address is left to the gateway or is the gateway's own.
abbrev pub is_own_address : List ℕ → Option (List ℕ) → Bool
is_own_address own asked = option_map_or (λ address. bytes_eq address own) asked true

abbrev pub is_own_port : ℕ → Option ℕ → Bool
is_own_port own asked = option_map_or (λ port. port == own) asked true

-- Whether a port is given and is not 0.
abbrev pub is_open_port : Option ℕ → Bool
is_open_port asked = option_map_or (λ port. not (port == 0)) asked false

-- Whether the gateway, with this address and port, can receive what is offered.
abbrev pub is_served_local : List ℕ → ℕ → Offer → Bool
is_served_local address port offer =
    is_own_address address offer.address && is_own_port port offer.port

-- Whether the offer names an address, a port other than 0, and a law.
abbrev pub is_served_remote : Offer → Bool
is_served_remote offer = is_open_port offer.port && is_some offer.address && is_some offer.law

-- The offers of the alternatives that have an offer.
abbrev pub offers_of : List (Option Offer) → List Offer
offers_of alternatives = filter_map (λ offer. offer) alternatives

abbrev pub local_of : List ℕ → ℕ → Offer → Chosen
local_of address port offer =
    record { address = address; port = port; law = unwrap_or offer.law Mu }

-- The first offer whose media the gateway can receive. If the offer leaves the law to the gateway, the law is mu-law.
abbrev pub local_choice : List ℕ → ℕ → List (Option Offer) → Option Chosen
local_choice address port alternatives =
    option_map (local_of address port)
    (find (is_served_local address port) (offers_of alternatives))

abbrev pub remote_of : Offer → Option Chosen
remote_of offer = do
  address ← offer.address
  port ← offer.port
  law ← offer.law
  Some (record { address = address; port = port; law = law })

-- The first offer whose media the gateway can send.
abbrev pub remote_choice : List (Option Offer) → Option Chosen
remote_choice alternatives =
    option_and_then remote_of (find is_served_remote (offers_of alternatives))
