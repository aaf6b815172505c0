-- Isolation over time. In each tick, a listener's packet does not depend on anything ever received from terminations
-- that the listener does not hear in that tick.
use Rattle.std.specs.Prelude.{◌≡◌, ℕ, ◌==◌, List, [], ◌∷◌, ◌++◌, filter, map, Option}
use Rattle.std.specs.List.{AllByRecursion}
use Rattle.mg_kept.specs.KeptReplies.{KeptReply}
use Rattle.mg_rooms.specs.Limits.{slot_port}
use Rattle.mg_engine.specs.declared.datagram.Datagram.{Datagram}
use Rattle.mg_words.specs.declared.peer.Peer.{Peer}
use Rattle.mg_engine.specs.Apart as engine
use Rattle.mg_engine.specs.Apart.{HearsNone, IsPortAmong}
use Rattle.mg_engine.specs.Gateway.{Gateway}
use Rattle.mg_core.specs.declared.counts.Counts.{Counts}
use Rattle.mg_core.specs.declared.event.Event.{Event}
use Rattle.mg_core.specs.declared.event.Event.TheVariants.{Media, Tick}
use Rattle.mg_core.specs.declared.shown.Shown.{Shown}
use Rattle.mg_core.specs.declared.state.CoreState.{CoreState}
use Rattle.mg_core.specs.Headline.{HasHistory}
use Rattle.mg_core.specs.Run.{RanToEnd}
use Rattle.mg_core.specs.Step.{Sent, Packet, Step, Run}
use Rattle.mg_core.specs.World.{World, packets_of}

-- ## Agreement

-- The sender and the number of the request that a kept reply answers.
abbrev pub key_of : KeptReply → List ℕ × ℕ
key_of reply = (reply.sender, reply.number)

-- Two worlds agree outside some terminations if their gateways do and they keep replies to the same requests, in the
-- same order. The counts of events may differ, and so may the texts of these replies.
pub record AgreeOutside (some : List ℕ) (a b : World) : Type 0 where
  pub gateway : engine.AgreeOutside some a.gateway b.gateway
  pub replies : map key_of a.replies ≡ map key_of b.replies

-- ## The next tick

-- The packets that the next tick sends from a port.
abbrev pub next_packets : ℕ → World → List Datagram
next_packets port w = filter (λ d. d.from == port) (packets_of w)

-- In the next tick, the termination with this port hears none of these terminations.
abbrev pub HearsNoneAt : List ℕ → Gateway → ℕ → Type 0
HearsNoneAt some w port =
    AllByRecursion (λ r. slot_port w.rooms.limits r.slot ≡ port → HearsNone some w r.number)
    w.rooms.terminations

-- If the termination with this port hears none of these terminations in the first world, the next tick sends the same
-- packets from the port in both worlds. Either the bytes are the same, or there is no packet in either world.
abbrev pub NextTickIsSame : List ℕ → ℕ → World → World → Type 0
NextTickIsSame some port a b =
    HearsNoneAt some a.gateway port → next_packets port a ≡ next_packets port b

-- ## Two lists of events that differ in RTP datagrams

-- An event in both lists, or an RTP datagram in only one of them.
pub data Happening : Type 0 where
  Both : (event : Event) → Happening
  FirstOnly : (port : ℕ) (source : Peer) (bytes : List ℕ) → Happening
  SecondOnly : (port : ℕ) (source : Peer) (bytes : List ℕ) → Happening

abbrev pub to_first : List Happening → List Event
to_first [] = []
to_first (Both event ∷ xs) = event ∷ to_first xs
to_first (FirstOnly port source bytes ∷ xs) = Media port source bytes ∷ to_first xs
to_first (SecondOnly port source bytes ∷ xs) = to_first xs

abbrev pub to_second : List Happening → List Event
to_second [] = []
to_second (Both event ∷ xs) = event ∷ to_second xs
to_second (FirstOnly port source bytes ∷ xs) = to_second xs
to_second (SecondOnly port source bytes ∷ xs) = Media port source bytes ∷ to_second xs

-- Only RTP datagrams at the ports of these terminations can be in one list alone.
abbrev pub DifferAtPortsOf : List ℕ → World → List Happening → Type 0
DifferAtPortsOf some w [] = Unit {0}
DifferAtPortsOf some w (Both event ∷ xs) =
    (s : List Sent) (next : World) → Step w event s next → DifferAtPortsOf some next xs
DifferAtPortsOf some w (FirstOnly port source bytes ∷ xs) =
    IsPortAmong some w.gateway port
    × ((s : List Sent) (next : World) → Step w (Media port source bytes) s next
    → DifferAtPortsOf some next xs)
DifferAtPortsOf some w (SecondOnly port source bytes ∷ xs) =
    IsPortAmong some w.gateway port × DifferAtPortsOf some w xs

-- Suppose two worlds agree outside some terminations, and their events differ only in RTP datagrams at the ports of
-- these terminations. Then the worlds still agree afterwards. The next tick sends the same packet to each listener that
-- hears none of these terminations in that tick, whatever the listener heard before.
abbrev pub UnheardChangesNothing : Type 0
UnheardChangesNothing =
    (some : List ℕ) (port : ℕ) (a b x y : World) (xs : List Happening) (s t : List Sent)
    → AgreeOutside some a b → DifferAtPortsOf some a xs
    → Run a (to_first xs) s x → Run b (to_second xs) t y
    → AgreeOutside some x y × NextTickIsSame some port x y

-- `UnheardChangesNothing` holds after two histories of gateways that began with the same world.
abbrev pub UnheardInHistories : Type 0
UnheardInHistories =
    (some : List ℕ) (port : ℕ) (base : World) (xs : List Happening) (s t : List Sent)
    (v w : World) (one other : CoreState)
    → DifferAtPortsOf some base xs
    → HasHistory base (to_first xs) s v one → HasHistory base (to_second xs) t w other
    → NextTickIsSame some port v w

-- The first events lead to the world `w`, and a tick follows. The first events, this tick and everything after it send
-- these datagrams.
abbrev pub HasTickAfter : (base : World) → List Event → List Sent → World → Type 0
HasTickAfter base events sent w =
    (before after : List Sent) × Run base events before w
    × (sent ≡ before ++ (map Packet (packets_of w) ++ after))

-- Suppose two gateways began with the same base, and ran two scripts to the end. Until a tick in each script, their
-- events differ only in RTP datagrams at the ports of these terminations. Then `NextTickIsSame` holds in that tick,
-- whatever comes after it.
abbrev pub UnheardInScripts : Type 0
UnheardInScripts =
    (some : List ℕ) (port : ℕ) (base : World) (xs : List Happening) (rest others : List Event)
    (first second : Shown) (one other : List ℕ) (counts more : Counts)
    (old new was is : Option (List ℕ)) (a : RanToEnd base first one counts old new)
    (b : RanToEnd base second other more was is)
    → DifferAtPortsOf some base xs
    → a.ran.events ≡ to_first xs ++ (Tick ∷ rest) → b.ran.events ≡ to_second xs ++ (Tick ∷ others)
    → (v w : World) × HasTickAfter base (to_first xs) a.ran.sent v
    × HasTickAfter base (to_second xs) b.ran.sent w × NextTickIsSame some port v w
