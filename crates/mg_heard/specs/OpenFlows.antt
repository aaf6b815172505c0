-- The flows that are open in a gateway, with everything that is printed about them.
use Rattle.std.specs.Prelude.{ℕ, List, filter, flat_map, map, Option, option_and_then}
use Rattle.std.specs.Option.{option_map}
use Rattle.mg_words.specs.declared.peer.Peer.{Peer}
use Rattle.mg_rooms.specs.Registry.{record_at}
use Rattle.mg_engine.specs.Flow.{flow}
use Rattle.mg_engine.specs.Gateway.{Gateway, context_of, numbers_of}
use Rattle.mg_heard.specs.declared.open_flow.OpenFlow.{OpenFlow}

-- The address and port to which the gateway sends a termination's packets, or `None` if the termination has no Remote.
abbrev pub remote_of : Gateway → ℕ → Option Peer
remote_of w n = option_and_then
    (λ r. option_map (λ c. record { address = c.address; port = c.port }) r.remote)
    (record_at w.rooms n)

-- The flow from a talker to a listener, with the context and the Remotes that they have in this gateway.
abbrev pub open_flow : Gateway → ℕ → ℕ → OpenFlow
open_flow w listener talker = record {
  listener = listener;
  talker = talker;
  context = context_of w listener;
  listener_at = remote_of w listener;
  talker_at = remote_of w talker;
}

-- All open flows to a listener, in order of talkers.
abbrev pub flows_to : Gateway → ℕ → List OpenFlow
flows_to w listener =
    map (open_flow w listener) (filter (λ talker. flow w talker listener) (numbers_of w))

-- All open flows, in order of listeners and then of talkers.
abbrev pub open_flows : Gateway → List OpenFlow
open_flows w = flat_map (flows_to w) (numbers_of w)
