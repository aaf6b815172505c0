-- The meaning of one triple of a topology descriptor (RFC 3525, section 7.1.18).
use Rattle.std.specs.Prelude.{◌≡◌, ℕ, Bool, true, false, ◌&&◌, ◌||◌, not}
use Rattle.mg_topology.specs.Mask.{has_seat, is_disjoint, HaveCommonSeat}
use Rattle.mg_topology.specs.declared.triple.Triple.{Triple}
use Rattle.mg_words.specs.declared.association.Association.{Association}
use Rattle.mg_words.specs.declared.association.Association.TheVariants.{Isolate, Oneway, Bothway}

-- Whether the talker is in the first set of the triple and the listener in the second.
abbrev pub is_forward : Triple → ℕ → ℕ → Bool
is_forward triple talker listener = has_seat triple.first talker && has_seat triple.second listener

-- Whether a triple mentions a pair: one of the two is in its first set and the other in its second.
abbrev pub mentions : Triple → ℕ → ℕ → Bool
mentions triple a b = is_forward triple a b || is_forward triple b a

-- Whether an association lets the listener hear the talker. The flag says whether the talker is in the first set and
-- the listener in the second.
abbrev pub permits : Association → Bool → Bool
permits Isolate forward = false
permits Oneway forward = forward
permits Bothway forward = true

-- Whether a triple that mentions the pair lets the listener hear the talker.
abbrev pub word_of : Triple → ℕ → ℕ → Bool
word_of triple talker listener = permits triple.association (is_forward triple talker listener)

-- The triple is Oneway, and its two sets share a seat.
abbrev pub Overlaps : Triple → Type 0
Overlaps triple = (triple.association ≡ Oneway) × HaveCommonSeat triple.first triple.second

-- Whether the association is Oneway.
abbrev pub is_oneway : Association → Bool
is_oneway Isolate = false
is_oneway Oneway = true
is_oneway Bothway = false

-- The predicate `Overlaps` as a test (`overlap_is_a_common_seat` in src/theorems.rt).
abbrev pub overlaps : Triple → Bool
overlaps triple = is_oneway triple.association && not (is_disjoint triple.first triple.second)
