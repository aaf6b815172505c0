-- Terminations with the talkers whose speech flows to them, as the code finds the flows.
use Rattle.std.specs.Prelude.{◌≡◌, ℕ, ◌<◌, ◌==◌, ◌&&◌, nat_lt, Bool, List, filter, flat_map, map}
use Rattle.std.specs.Prelude.{All, AllPairs, Some}
use Rattle.std.specs.Option.{option_eq}
use Rattle.mg_topology.specs.Mask.{has_seat, seat_limit}
use Rattle.mg_rooms.specs.declared.record.Record.{Record}
use Rattle.mg_rooms.specs.Registry.{record_at}
use Rattle.mg_engine.specs.Flow.{flow}
use Rattle.mg_engine.specs.Gateway.{Gateway}
use Rattle.mg_heard.specs.OpenFlow.{is_same_peer}
use Rattle.mg_heard.specs.aids.Parties.{party_of}
use Rattle.mg_heard.specs.declared.hearer.Hearer.{Hearer}
use Rattle.mg_heard.specs.declared.open_flow.OpenFlow.{OpenFlow}
use Rattle.mg_heard.specs.declared.party.Party.{Party}
use Rattle.mg_heard.specs.declared.seated.Seated.{Seated}

abbrev pub seated_of : Record → Seated
seated_of r = record { party = party_of r; seat = r.seat }

abbrev pub seats_of : List Hearer → List Seated
seats_of hs = map (λ h. h.seated) hs

abbrev pub number_of : Hearer → ℕ
number_of h = h.seated.party.number

-- ## Tests

abbrev pub is_same_seated : Seated → Seated → Bool
is_same_seated a b =
    ((a.party.number == b.party.number) && ((a.party.context == b.party.context)
    && option_eq is_same_peer a.party.at b.party.at)) && (a.seat == b.seat)

-- Whether a talker's speech flows to a listener.
abbrev pub is_heard : Hearer → Seated → Bool
is_heard h t =
    (t.party.context == h.seated.party.context)
    && (nat_lt t.seat seat_limit && has_seat h.talkers t.seat)

-- ## Flows

abbrev pub flow_between : (listener talker : Party) → OpenFlow
flow_between listener talker = record {
  listener = listener.number;
  talker = talker.number;
  context = listener.context;
  listener_at = listener.at;
  talker_at = talker.at;
}

-- The flows from these talkers to a listener.
abbrev pub flows_heard : List Seated → Hearer → List OpenFlow
flows_heard talkers h =
    map (λ t. flow_between h.seated.party t.party) (filter (is_heard h) talkers)

-- The flows among these terminations.
abbrev pub flows_among : List Hearer → List OpenFlow
flows_among hs = flat_map (flows_heard (seats_of hs)) hs

-- ## Terminations of a gateway

abbrev pub AreRising : List Hearer → Type 0
AreRising hs = AllPairs (λ h later. number_of h < number_of later) hs

-- `h.talkers` has exactly the seats of the talkers whose speech flows to this termination.
pub record HearsTalkers (w : Gateway) (h : Hearer) : Type 0 where
  pub each : (t : Record) → record_at w.rooms t.number ≡ Some t
      → t.context ≡ h.seated.party.context
      → has_seat h.talkers t.seat ≡ flow w t.number (number_of h)

-- The list consists of all terminations of a gateway, in order of their numbers.
pub record AreHearers (w : Gateway) (hs : List Hearer) : Type 0 where
  pub seated : seats_of hs ≡ map seated_of w.rooms.terminations
  pub talkers : All (HearsTalkers w) hs
