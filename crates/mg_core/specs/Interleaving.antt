-- Between two control datagrams or ticks, the order of RTP datagrams at different ports does not matter.
use Rattle.std.specs.Prelude.{◌≡◌, ◌==◌, not, ℕ, Bool, false, List, Option, filter}
use Rattle.mg_core.specs.declared.counts.Counts.{Counts}
use Rattle.mg_core.specs.declared.event.Event.{Event}
use Rattle.mg_core.specs.declared.event.Event.TheVariants.{Media}
use Rattle.mg_core.specs.declared.shown.Shown.{Shown}
use Rattle.mg_core.specs.Base.{IsBase}
use Rattle.mg_core.specs.Run.{RanToEnd}
use Rattle.mg_core.specs.Step.{Sent, Run}
use Rattle.mg_core.specs.World.{World}

-- Whether an event is an RTP datagram at another port.
abbrev pub is_elsewhere : ℕ → Event → Bool
is_elsewhere port (Media other source bytes) = not (other == port)
is_elsewhere port _ = false

-- The events that a port sees: all except RTP datagrams at other ports.
abbrev pub seen_at : ℕ → List Event → List Event
seen_at port events = filter (λ e. not (is_elsewhere port e)) events

-- Both lists have the same control datagrams and ticks, in the same order. Between two of these events, before the
-- first and after the last, each port receives the same RTP datagrams in the same order.
abbrev pub AreSameToEachPort : List Event → List Event → Type 0
AreSameToEachPort a b = (port : ℕ) → seen_at port a ≡ seen_at port b

-- For two lists of events that are the same to each port, the gateway sends the same datagrams in
-- the same order, and ends in the same world.
abbrev pub PortOrderIsIrrelevant : Type 0
PortOrderIsIrrelevant =
    (base : World) (a b : List Event) (s t : List Sent) (v w : World)
    → IsBase base → AreSameToEachPort a b
    → Run base a s v → Run base b t w → (s ≡ t) × (v ≡ w)

-- Suppose two gateways began with the same base, ran two scripts to the end in either form of output, and their
-- events are the same to each port. Then
-- both runs write the same datagrams, and end in the same world.
abbrev pub PortOrderInScripts : Type 0
PortOrderInScripts =
    (base : World) (first second : Shown) (one other : List ℕ) (counts more : Counts)
    (old new was is : Option (List ℕ)) → IsBase base
    → (a : RanToEnd base first one counts old new)
    (b : RanToEnd base second other more was is)
    → AreSameToEachPort a.ran.events b.ran.events
    → (a.ran.sent ≡ b.ran.sent) × (a.last ≡ b.last)
