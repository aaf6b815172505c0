-- The headline theorem: the flows, totals and packets of a gateway after any sequence of events, and the consequences
-- for participants who must not be heard.
use Rattle.std.specs.Prelude.{◌≡◌, ℕ, ℤ, Bool, true, false, List, [], ◌∷◌, ◌++◌, Option}
use Rattle.std.specs.Prelude.{replicate}
use Rattle.std.specs.List.{list_all}
use Rattle.mg_rooms.specs.Consistent.{IsConsistent}
use Rattle.mg_engine.specs.declared.datagram.Datagram.{Datagram}
use Rattle.mg_engine.specs.Flow.{flow}
use Rattle.mg_engine.specs.Mix.{total_at}
use Rattle.mg_core.specs.declared.event.Event.{Event}
use Rattle.mg_core.specs.declared.event.Event.TheVariants.{Control, Tick}
use Rattle.mg_core.specs.declared.state.CoreState.{CoreState}
use Rattle.mg_core.specs.Base.{IsBase}
use Rattle.mg_core.specs.World.{World, packets_of}
use Rattle.mg_core.specs.aids.Stands.{StandsFor}
use Rattle.mg_core.specs.Step.{Sent, Run}

-- A gateway began with the world `base`, these events arrived one after another, and these datagrams were sent. The
-- result is the world `w`, and the state represents it. A new gateway begins with the world `start_of config`.
abbrev pub HasHistory : World → List Event → List Sent → World → CoreState → Type 0
HasHistory base events sent w state = Run base events sent w × StandsFor state w

-- The world at the beginning and a list of events determine the resulting world and the datagrams sent.
abbrev pub EventsDetermineOutcome : Type 0
EventsDetermineOutcome =
    (base : World) (events : List Event) (s t : List Sent) (v w : World) (state : CoreState)
    → HasHistory base events s v state → HasHistory base events t w state → (s ≡ t) × (v ≡ w)

-- One more event arrived and these datagrams were sent in response, whatever happened before.
abbrev pub ExtendsHistory : CoreState → CoreState → Event → List Sent → Type 0
ExtendsHistory old new event sent =
    (base : World) (events : List Event) (before : List Sent) (w : World)
    → HasHistory base events before w old
    → (next : World) × HasHistory base (events ++ event ∷ []) (before ++ sent) next new

-- This many ticks passed, whatever happened before, and each tick sent its packets.
abbrev pub ExtendsByTicks : CoreState → CoreState → ℕ → Type 0
ExtendsByTicks old new count = (base : World) (events : List Event) (before : List Sent)
    (w : World) → HasHistory base events before w old → (sent : List Sent) × (next : World)
    × HasHistory base (events ++ replicate count Tick) (before ++ sent) next new

-- After any sequence of events, the returned flow equals the one recomputed from the context, the modes, and all edits
-- of contexts.
abbrev pub FlowIsRecomputed : CoreState → ℕ → ℕ → Bool → Type 0
FlowIsRecomputed state talker listener answer =
    (base : World) (events : List Event) (sent : List Sent) (w : World)
    → HasHistory base events sent w state → answer ≡ flow w.gateway talker listener

-- After any sequence of events, the returned total equals the one recomputed from the members of the context, their
-- modes and their current frames.
abbrev pub TotalIsRecomputed : CoreState → ℕ → ℕ → Option ℤ → Type 0
TotalIsRecomputed state context i answer =
    (base : World) (events : List Event) (sent : List Sent) (w : World)
    → HasHistory base events sent w state → answer ≡ total_at w.gateway context i

-- After any sequence of events, the packets of a tick are exactly the recomputed ones, in order of the terminations'
-- numbers. Except in Loopback, each byte of a payload encodes the sum, saturated once, of everyone whose flow to the
-- listener is open.
abbrev pub PacketsAreRecomputed : CoreState → List Datagram → Type 0
PacketsAreRecomputed state outbox =
    (base : World) (events : List Event) (sent : List Sent) (w : World)
    → HasHistory base events sent w state → outbox ≡ packets_of w

-- ## After a refused command

-- Whether an event is an RTP datagram or a tick.
abbrev pub is_of_media : Event → Bool
is_of_media (Control source bytes) = false
is_of_media _ = true

-- Except for a command on `*`, a refused command leaves the gateway unchanged. The reply to its request is kept. Flows,
-- totals and the packets of a tick depend only on the gateway. So if two worlds have the same gateway, the same RTP
-- datagrams and ticks lead to the same packets in both, whatever replies they keep. Both worlds end with the same
-- gateway.
abbrev pub GatewayDeterminesFuture : Type 0
GatewayDeterminesFuture =
    (a b : World) (events : List Event) (s t : List Sent) (x y : World)
    → a.gateway ≡ b.gateway → list_all is_of_media events ≡ true
    → Run a events s x → Run b events t y → (s ≡ t) × (x.gateway ≡ y.gateway)

-- ## The order of terminations

-- After any sequence of events, terminations and contexts are consistent. So the terminations are
-- in order of their numbers, and a tick sends its packets in that order.
abbrev pub WorldsAreConsistent : Type 0
WorldsAreConsistent =
    (base : World) (events : List Event) (sent : List Sent) (w : World)
    → IsBase base → Run base events sent w → IsConsistent w.gateway.rooms
