-- A set of seats as the bits of a number (not from a standard).
use Rattle.std.specs.Prelude.{ℕ, Bool, ◌==◌, bit_and, List, length, IsTrue, IsFalse}
use Rattle.std.specs.Int.{bit_at}
use Rattle.std.specs.List.{filter, range_with_len}

-- Seats are the numbers below this limit. A mask has this many bits, and a context has at most this
-- many members (`each_member_has_a_seat` in src/theorems.rt).
abbrev pub seat_limit : ℕ
seat_limit = 64

-- Whether the seat is in the set: bit s is for seat s.
unfoldable pub has_seat : ℕ → ℕ → Bool
has_seat mask seat = bit_at mask seat == 1

-- The seats of the set, in ascending order.
unfoldable pub seats_of : ℕ → List ℕ
seats_of mask = filter (has_seat mask) (range_with_len 0 seat_limit)

-- The number of seats in the set.
abbrev pub seat_count : ℕ → ℕ
seat_count mask = length (seats_of mask)

-- Whether the sets have no seat in common.
unfoldable pub is_disjoint : ℕ → ℕ → Bool
is_disjoint a b = bit_and a b == 0

-- Some seat is in both sets.
pub record HaveCommonSeat (a b : ℕ) : Type 0 where
  pub seat : ℕ
  pub in_first : IsTrue (has_seat a seat)
  pub in_second : IsTrue (has_seat b seat)

-- No seat is in the set.
abbrev pub IsEmpty : ℕ → Type 0
IsEmpty mask = (seat : ℕ) → IsFalse (has_seat mask seat)
