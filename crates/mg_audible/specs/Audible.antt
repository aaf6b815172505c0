-- A talker is audible to a listener if the talker's speech changes the bytes that the gateway sends to the listener.
-- Intervals follow from moments as in `mg_heard`. Here, each tick has a moment: the flows whose listeners are sent
-- different bytes.
use Rattle.std.specs.Prelude.{◌≡◌, ℕ, ◌==◌, not, Bool, List, [], ◌∷◌, filter, find, map}
use Rattle.std.specs.Prelude.{reverse, if◌then◌else◌}
use Rattle.std.specs.Option.{option_map_or}
use Rattle.std.specs.Str.{bytes_eq}
use Rattle.mg_rooms.specs.Limits.{slot_port}
use Rattle.mg_rooms.specs.declared.record.Record.{Record}
use Rattle.mg_engine.specs.declared.datagram.Datagram.{Datagram}
use Rattle.mg_core.specs.declared.event.Event.{Event}
use Rattle.mg_core.specs.Counting.{is_tick}
use Rattle.mg_core.specs.World.{World, packets_of}
use Rattle.mg_heard.specs.declared.open_flow.OpenFlow.{OpenFlow}
use Rattle.mg_heard.specs.Intervals.{Interval, intervals}
use Rattle.mg_heard.specs.OpenFlows.{open_flow}
use Rattle.mg_audible.specs.Without.{StepWithout}

-- ## One tick

-- The bytes of the first packet from a port, or no bytes if there is no such packet. No port has two packets.
abbrev pub bytes_from : ℕ → List Datagram → List ℕ
bytes_from port packets = option_map_or (λ d. d.bytes) (find (λ d. d.from == port) packets) []

-- In the next tick, the two worlds send different bytes to the termination with this record.
abbrev pub is_sent_other : World → World → Record → Bool
is_sent_other v w r =
    let port = slot_port v.gateway.rooms.limits r.slot in
    not (bytes_eq (bytes_from port (packets_of v)) (bytes_from port (packets_of w)))

-- The flows from the talker to the terminations to which the two worlds send different bytes in the next tick. They are
-- in order of listeners, with the data of the first world.
abbrev pub audible_flows : ℕ → World → World → List OpenFlow
audible_flows talker v w =
    map (λ r. open_flow v.gateway r.number talker)
    (filter (is_sent_other v w) v.gateway.rooms.terminations)

-- ## All ticks

-- Events arrive at two gateways, one after another, but the talker's speech arrives only at the first gateway.
-- `moments` lists the audible flows of each tick, and the gateways end in the worlds `last` and `other`.
abbrev pub RunsWithout : ℕ → World → World → List Event → List (List OpenFlow) → World → World
    → Type 0
RunsWithout talker v w [] moments last other = (moments ≡ []) × (last ≡ v) × (other ≡ w)
RunsWithout talker v w (event ∷ events) moments last other =
    (next : World) × (also : World) × (later : List (List OpenFlow))
    × StepWithout talker v w event next also
    × RunsWithout talker next also events later last other
    × (moments ≡ if is_tick event then audible_flows talker v w ∷ later else later)

-- The intervals in which the talker is audible, for gateways that began with this world.
abbrev pub AreAudible : World → ℕ → List Event → List Interval → Type 0
AreAudible base talker events ys =
    (moments : List (List OpenFlow)) × (last : World) × (other : World)
    × RunsWithout talker base base events moments last other
    × (ys ≡ intervals (reverse moments))
