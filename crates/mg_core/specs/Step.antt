-- The steps of a gateway, for an event and for a list of events: the datagrams that are sent, and the resulting world.
use Rattle.std.specs.Prelude.{◌≡◌, ℕ, List, [], ◌∷◌, ◌++◌, map, Option, Some, None}
use Rattle.std.specs.Option.{option_map_or}
use Rattle.mg_engine.specs.declared.datagram.Datagram.{Datagram}
use Rattle.mg_words.specs.declared.peer.Peer.{Peer}
use Rattle.mg_engine.specs.declared.taken.Taken.{Taken}
use Rattle.mg_core.specs.declared.event.Event.{Event}
use Rattle.mg_core.specs.declared.event.Event.TheVariants.{Control, Media, Tick}
use Rattle.mg_core.specs.declared.answer.Answer.{Answer}
use Rattle.mg_core.specs.declared.answer.Answer.TheVariants.{Send, Silent}
use Rattle.mg_core.specs.World.{World, TakesMedia, with_control, world_after_tick, packets_of}
use Rattle.mg_core.specs.Answer.{Answers}

-- A datagram that is sent: an answer from the control port, or a packet of a tick.
pub data Sent : Type 0 where
  Reply : (to : Peer) (text : List ℕ) → Sent
  Packet : (datagram : Datagram) → Sent

-- The datagrams to send for an answer to a peer: the answer, or nothing if there is no answer.
abbrev pub answer_to : Peer → Option (List ℕ) → List Sent
answer_to source answer = option_map_or (λ text. Reply source text ∷ []) answer []

-- The text if the core reports an answer, otherwise `None`.
abbrev pub reported : Answer → List ℕ → Option (List ℕ)
reported Send text = Some text
reported Silent text = None

-- In the world `w`, the gateway sends these datagrams, in this order, in response to an event, which leads to the next
-- world. A control datagram can be answered, an RTP datagram causes no datagram, and a tick causes its packets.
abbrev pub Step : World → Event → List Sent → World → Type 0
Step w (Control source bytes) sent next =
    (answer : Option (List ℕ)) × Answers bytes (with_control w) answer next
    × (sent ≡ answer_to source answer)
Step w (Media port source bytes) sent next =
    (taken : Taken) × TakesMedia w port source bytes next taken × (sent ≡ [])
Step w Tick sent next = (sent ≡ map Packet (packets_of w)) × (next ≡ world_after_tick w)

-- Events run one after another, each in the world that the previous one left.
abbrev pub Run : World → List Event → List Sent → World → Type 0
Run w [] sent last = (sent ≡ []) × (last ≡ w)
Run w (event ∷ events) sent last =
    (first : List Sent) × (others : List Sent) × (next : World)
    × Step w event first next × Run next events others last × (sent ≡ first ++ others)
