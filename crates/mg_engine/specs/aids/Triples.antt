-- Triples by the seats of the members that their terms match.
use Rattle.std.specs.Prelude.{◌≡◌, ℕ, IsTrue, List, [], ◌∷◌, Some}
use Rattle.std.specs.Option.{option_map}
use Rattle.mg_topology.specs.declared.triple.Triple.{Triple}
use Rattle.mg_topology.specs.Mask.{has_seat}
use Rattle.mg_rooms.specs.declared.record.Record.{Record}
use Rattle.mg_rooms.specs.Registry.{Registry, context_at}
use Rattle.mg_flow.specs.declared.place.Place.{Place}
use Rattle.mg_engine.specs.declared.topology_triple.TopologyTriple.{TopologyTriple}
use Rattle.mg_engine.specs.Flow.{has}
use Rattle.mg_engine.specs.aids.Place.{IsOnPlace}
use Rattle.mg_engine.specs.Triples.{matched}
use Rattle.mg_words.specs.declared.association.Association.TheVariants.{Isolate}
use Rattle.mg_engine.specs.declared.triple_term.TripleTerm.TheVariants.{Barred}

-- An upper limit for the number of triples in an edit. A control datagram that is read cannot hold more.
abbrev pub triple_limit : ℕ
triple_limit = 1200

-- The context exists and has this room.
abbrev pub IsRoomOf : Registry → ℕ → ℕ → Type 0
IsRoomOf w c room = option_map (λ x. x.room) (context_at w c) ≡ Some room

-- A member of the context c has this seat.
abbrev pub IsSeated : Registry → ℕ → ℕ → ℕ → Type 0
IsSeated w c n seat =
    (r : Record) × (p : Place) × IsOnPlace w n r p × (r.context ≡ c) × (p.seat ≡ seat)

-- The mask contains exactly the seats of the named members, and only members are named.
pub record Matches (w : Registry) (c : ℕ) (names : List ℕ) (mask : ℕ) : Type 0 where
  pub same : (n seat : ℕ) → IsSeated w c n seat → has_seat mask seat ≡ has names n
  pub seats : (seat : ℕ) → IsTrue (has_seat mask seat) → (n : ℕ) × IsSeated w c n seat
  pub named : (n : ℕ) → IsTrue (has names n) → (seat : ℕ) × IsSeated w c n seat

-- The triple by seats matches the triple by terms, among the members of the context c.
pub record IsMatched (w : Registry) (c : ℕ) (members : List ℕ) (x : TopologyTriple) (y : Triple)
    : Type 0 where
  pub association : y.association ≡ x.association
  pub first : Matches w c (matched members x.first) y.first
  pub second : Matches w c (matched members x.second) y.second

abbrev pub AreMatched : Registry → ℕ → List ℕ → List TopologyTriple → List Triple → Type 0
AreMatched w c members [] [] = Unit {0}
AreMatched w c members [] (y ∷ ys) = ⊥
AreMatched w c members (x ∷ xs) [] = ⊥
AreMatched w c members (x ∷ xs) (y ∷ ys) =
    IsMatched w c members x y × AreMatched w c members xs ys

-- A triple that causes its edit to fail.
abbrev pub barred_triple : TopologyTriple
barred_triple = record { first = Barred; second = Barred; association = Isolate }
