-- Two gateways with the same events, except that the second gateway does not receive the speech of one talker.
use Rattle.std.specs.Prelude.{◌≡◌, ℕ, ◌==◌, Bool, true, false, List}
use Rattle.std.specs.Option.{option_map_or}
use Rattle.mg_engine.specs.Arrival.{at_port}
use Rattle.mg_engine.specs.Gateway.{Gateway}
use Rattle.mg_core.specs.declared.event.Event.{Event}
use Rattle.mg_core.specs.declared.event.Event.TheVariants.{Media}
use Rattle.mg_core.specs.Step.{Sent, Step}
use Rattle.mg_core.specs.World.{World}

-- Whether the port belongs to the termination with this number.
abbrev pub is_port_of : Gateway → ℕ → ℕ → Bool
is_port_of w n port = option_map_or (λ r. r.number == n) (at_port w.rooms port) false

-- Whether an event is an RTP datagram that arrives at the talker's port.
abbrev pub is_speech_of : Gateway → ℕ → Event → Bool
is_speech_of w talker (Media port source bytes) = is_port_of w talker port
is_speech_of w talker _ = false

-- The step of an event, or no step if the event is left out.
abbrev pub StepUnless : (is_left_out : Bool) → World → Event → World → Type 0
StepUnless true w event next = next ≡ w
StepUnless false w event next = (sent : List Sent) × Step w event sent next

-- An event arrives at both gateways, or only at the first one if it is speech of the talker.
abbrev pub StepWithout : ℕ → World → World → Event → World → World → Type 0
StepWithout talker v w event next other =
    StepUnless false v event next
    × StepUnless (is_speech_of v.gateway talker event) w event other
