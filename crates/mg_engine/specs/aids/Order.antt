-- The order of packets that arrive at different ports does not matter.
use Rattle.std.specs.Prelude.{◌≢◌, ℕ, List}
use Rattle.mg_rooms.specs.Consistent.{IsConsistent}
use Rattle.mg_engine.specs.declared.taken.Taken.{Taken}
use Rattle.mg_engine.specs.Arrival.{Takes}
use Rattle.mg_engine.specs.Gateway.{Gateway}

-- Two RTP datagrams arrive at two different ports of a gateway whose terminations and contexts are consistent. In
-- either order, each has the same outcome, and the gateway ends in the same state.
abbrev pub ArrivalOrderIsIrrelevant : Type 0
ArrivalOrderIsIrrelevant =
    (w between last : Gateway) (port other : ℕ) (from source bytes list : List ℕ) (a b : Taken)
    → IsConsistent w.rooms → port ≢ other
    → Takes w port from bytes between a → Takes between other source list last b
    → (turned : Gateway) × Takes w other source list turned b × Takes turned port from bytes last a
