-- Properties of lookups that follow from the invariant of a gateway. `sound_if` proves them for every consistent
-- registry.
use Rattle.std.specs.Prelude.{◌≡◌, ℕ, ◌<◌, ◌≤◌, ◌==◌, ◌↔◌, Some, IsSome, IsTrue, length}
use Rattle.std.specs.Prelude.{slice_index_or}
use Rattle.std.specs.List.{list_any, count_by}
use Rattle.mg_rooms.specs.declared.record.Record.{Record}
use Rattle.mg_rooms.specs.declared.context.Context.{Context}
use Rattle.mg_rooms.specs.Registry.{Registry, record_at, context_at, holder_of, members_at}
use Rattle.mg_rooms.specs.Consistent.{IsConsistent, IsTermination, IsContext}

-- The termination n is in the context c.
abbrev pub IsMember : Registry → ℕ → ℕ → Type 0
IsMember w c n = (r : Record) × (record_at w n ≡ Some r) × (r.context ≡ c)

pub record IsSound (w : Registry) : Type 0 where
  pub consistent : IsConsistent w
  pub few : length w.terminations ≤ w.limits.slots
  -- A lookup returns the item with the given number, and its fields are within the limits.
  pub termination : (n : ℕ) (r : Record) → record_at w n ≡ Some r
      → (r.number ≡ n) × IsTermination w.limits w.next_termination r
  pub context : (c : ℕ) (x : Context) → context_at w c ≡ Some x
      → (x.number ≡ c) × IsContext w.limits w.next_context x
  -- Each termination is in a context that exists.
  pub there : (n : ℕ) (r : Record) → record_at w n ≡ Some r → IsSome (context_at w r.context)
  -- No two terminations have the same slot, no two members of a context have the same seat, and no two contexts have
  -- the same room.
  pub one_slot : (a b : ℕ) (r s : Record) → record_at w a ≡ Some r → record_at w b ≡ Some s
      → r.slot ≡ s.slot → a ≡ b
  pub one_seat : (a b : ℕ) (r s : Record) → record_at w a ≡ Some r → record_at w b ≡ Some s
      → r.context ≡ s.context → r.seat ≡ s.seat → a ≡ b
  pub one_room : (c d : ℕ) (x y : Context) → context_at w c ≡ Some x → context_at w d ≡ Some y
      → x.room ≡ y.room → c ≡ d
  -- Looking up a termination by its number or by its slot finds the termination.
  pub by_number : (i : ℕ) (d : Record) → i < length w.terminations
      → record_at w (slice_index_or w.terminations i d).number
      ≡ Some (slice_index_or w.terminations i d)
  pub by_slot : (i : ℕ) (d : Record) → i < length w.terminations
      → holder_of w (slice_index_or w.terminations i d).slot
      ≡ Some (slice_index_or w.terminations i d)
  pub holder : (n : ℕ) (r : Record) → record_at w n ≡ Some r → holder_of w r.slot ≡ Some r
  pub held : (slot : ℕ) (r : Record) → holder_of w slot ≡ Some r
      → (record_at w r.number ≡ Some r) × (r.slot ≡ slot)
  -- The members of a context are exactly the terminations in it, each once.
  pub members : (c n : ℕ) → IsTrue (list_any (λ m. m == n) (members_at w c)) ↔ IsMember w c n
  pub once : (c n : ℕ) → count_by (λ m. m == n) (members_at w c) ≤ 1
