-- A last word on one talker and one listener, as a triple of their seats (not from a standard).
use Rattle.std.specs.Prelude.{◌≡◌, ℕ, Bool, ◌&&◌, ◌||◌, ◌==◌}
use Rattle.mg_topology.specs.declared.triple.Triple.{Triple}
use Rattle.mg_topology.specs.Triple.{mentions, word_of}
use Rattle.mg_flow.specs.declared.place.Place.{Place}
use Rattle.mg_flow.specs.Place.{is_same_place}

-- Whether the talker and the listener are the first and the second seat.
abbrev pub is_pair : ℕ → ℕ → ℕ → ℕ → Bool
is_pair first second talker listener = (talker == first) && (listener == second)

-- The triple mentions exactly these two seats. The flags say whether the second hears the first, and whether the first
-- hears the second.
pub record SaysWord (triple : Triple) (first second : ℕ) (forward backward : Bool) : Type 0 where
  pub pairs : (t l : ℕ) →
      mentions triple t l ≡ (is_pair first second t l || is_pair second first t l)
  pub there : word_of triple first second ≡ forward
  pub back : word_of triple second first ≡ backward

-- Whether the talker and the listener are at these places.
abbrev pub are_at : Place → Place → Place → Place → Bool
are_at talker listener t l = is_same_place t talker && is_same_place l listener
