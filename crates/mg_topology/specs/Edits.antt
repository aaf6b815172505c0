-- The edits of one context, newest first, and what follows from them (RFC 3525, section 7.1.18). The rule that a
-- newcomer and every member hear each other is this project's own.
use Rattle.std.specs.Prelude.{ℕ, Bool, true, false, not, ◌&&◌, ◌||◌, ◌==◌, Option, Some, None}
use Rattle.std.specs.Prelude.{if◌then◌else◌, List, [], ◌∷◌}
use Rattle.mg_topology.specs.Triple.{mentions, word_of}
use Rattle.mg_topology.specs.declared.triple.Triple.{Triple}

-- An edit of a topology: a member takes a seat or leaves it, or a triple is applied.
pub data TopologyEdit : Type 0 where
  Enter : (seat : ℕ) → TopologyEdit
  Leave : (seat : ℕ) → TopologyEdit
  Apply : (triple : Triple) → TopologyEdit

-- Whether the seat is held: the latest of its Enters and Leaves is an Enter.
abbrev pub is_held : List TopologyEdit → ℕ → Bool
is_held [] seat = false
is_held (Enter n ∷ es) seat = if seat == n then true else is_held es seat
is_held (Leave n ∷ es) seat = if seat == n then false else is_held es seat
is_held (Apply triple ∷ es) seat = is_held es seat

-- The last word on a pair: the last triple that has mentioned the pair since both members entered, or `None` without
-- such a triple.
abbrev pub last_word : List TopologyEdit → ℕ → ℕ → Option Triple
last_word [] a b = None
last_word (Enter n ∷ es) a b = if (a == n) || (b == n) then None else last_word es a b
last_word (Leave n ∷ es) a b = last_word es a b
last_word (Apply triple ∷ es) a b = if mentions triple a b then Some triple else last_word es a b

-- Whether a last word lets the listener hear the talker. Without a last word, the listener hears the talker.
abbrev pub allows : Option Triple → ℕ → ℕ → Bool
allows None talker listener = true
allows (Some triple) talker listener = word_of triple talker listener

-- Whether the last word on the pair lets the listener hear the talker.
abbrev pub may_hear : List TopologyEdit → ℕ → ℕ → Bool
may_hear es talker listener = allows (last_word es talker listener) talker listener

-- Whether the listener hears the talker: both seats are held, they differ, and the last word allows it.
abbrev pub hears_in : List TopologyEdit → ℕ → ℕ → Bool
hears_in es talker listener =
    is_held es talker
    && (is_held es listener && (not (talker == listener) && may_hear es talker listener))

-- Whether the edit can change the last word on the pair.
abbrev pub touches : TopologyEdit → ℕ → ℕ → Bool
touches (Enter n) a b = (a == n) || (b == n)
touches (Leave n) a b = false
touches (Apply triple) a b = mentions triple a b
