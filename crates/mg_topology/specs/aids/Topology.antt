-- The state of a topology, and the lists of edits that it represents (not from a standard).
use Rattle.std.specs.Prelude.{◌≡◌, ℕ, Bool, not, ◌&&◌, ◌==◌, nat_lt, List, slice_index}
use Rattle.mg_topology.specs.Mask.{seat_limit, has_seat}
use Rattle.mg_topology.specs.Edits.{TopologyEdit, is_held, hears_in}

-- The held seats as a mask, and a row for each listener: the mask of the talkers that the last words let the listener
-- hear. Bits for the listener itself, or for a seat that is not held, have no meaning.
pub record TopologyState : Type 0 where
  pub held : ℕ
  pub rows : List ℕ

-- Whether the seat is held. No seat at or above the limit is held.
abbrev pub holds : TopologyState → ℕ → Bool
holds kept seat = nat_lt seat seat_limit && has_seat kept.held seat

-- Whether the listener hears the talker: both seats are held, they differ, and the row contains the
-- talker.
abbrev pub hears : TopologyState → ℕ → ℕ → Bool
hears kept talker listener =
    holds kept talker
    && (holds kept listener
    && (not (talker == listener) && has_seat (slice_index kept.rows listener) talker))

-- The state represents the edits: the two agree on each seat and each pair.
pub record StandsFor (kept : TopologyState) (es : List TopologyEdit) : Type 0 where
  pub seats : (seat : ℕ) → holds kept seat ≡ is_held es seat
  pub pairs : (talker listener : ℕ) → hears kept talker listener ≡ hears_in es talker listener
