-- The invariant of a gateway's terminations and contexts (not from a standard).
use Rattle.std.specs.Prelude.{◌≡◌, ℕ, ◌<◌, ◌≤◌, ◌+◌, ◌&&◌, ◌==◌, List, length}
use Rattle.std.specs.List.{AllByRecursion, AllPairs, count_by}
use Rattle.mg_rooms.specs.declared.record.Record.{Record}
use Rattle.mg_rooms.specs.declared.context.Context.{Context}
use Rattle.mg_rooms.specs.declared.limits.Limits.{Limits}
use Rattle.mg_rooms.specs.Limits.{AreValidLimits}
use Rattle.mg_words.specs.Limits.{min_depth, max_depth}
use Rattle.mg_words.specs.Limits.{context_limit, member_limit, last_termination, last_context}
use Rattle.mg_rooms.specs.Registry.{Registry, members_at}

-- The fields of a termination are within the limits, and its number is below the next termination number.
pub record IsTermination (limits : Limits) (next : ℕ) (r : Record) : Type 0 where
  pub from : limits.first_termination ≤ r.number
  pub below : r.number < next
  pub slot : r.slot < limits.slots
  pub seat : r.seat < member_limit
  pub deep_enough : min_depth ≤ r.depth
  pub not_too_deep : r.depth ≤ max_depth

-- Each termination is within the limits, and the terminations are in ascending order of number. No two terminations
-- have the same number, the same slot, or the same seat in a context.
pub record AreTerminations (limits : Limits) (next : ℕ) (rs : List Record) : Type 0 where
  pub each : AllByRecursion (IsTermination limits next) rs
  pub rising : AllPairs (λ r later. r.number < later.number) rs
  pub one_number : (n : ℕ) → count_by (λ r. r.number == n) rs ≤ 1
  pub one_slot : (slot : ℕ) → count_by (λ r. r.slot == slot) rs ≤ 1
  pub one_seat : (c seat : ℕ) → count_by (λ r. (r.context == c) && (r.seat == seat)) rs ≤ 1

-- The fields of a context are within the limits, and its number is below the next context number.
pub record IsContext (limits : Limits) (next : ℕ) (x : Context) : Type 0 where
  pub from : limits.first_context ≤ x.number
  pub below : x.number < next
  pub room : x.room < context_limit
  pub some : 0 < length x.members
  pub few : length x.members ≤ member_limit

-- Each context is within the limits, and the contexts are in ascending order of number. No two contexts have the same
-- number or the same room.
pub record AreContexts (limits : Limits) (next : ℕ) (xs : List Context) : Type 0 where
  pub each : AllByRecursion (IsContext limits next) xs
  pub rising : AllPairs (λ x later. x.number < later.number) xs
  pub one_number : (c : ℕ) → count_by (λ x. x.number == c) xs ≤ 1
  pub one_room : (room : ℕ) → count_by (λ x. x.room == room) xs ≤ 1

-- The members of each context are exactly the terminations whose records name it, each once.
pub record Agree (members : ℕ → List ℕ) (rs : List Record) : Type 0 where
  pub same : (c n : ℕ) → count_by (λ m. m == n) (members c)
      ≡ count_by (λ r. (r.context == c) && (r.number == n)) rs
  pub as_many : (c : ℕ) → length (members c) ≡ count_by (λ r. r.context == c) rs

pub record IsConsistent (w : Registry) : Type 0 where
  pub limits : AreValidLimits w.limits
  pub terminations : AreTerminations w.limits w.next_termination w.terminations
  pub contexts : AreContexts w.limits w.next_context w.contexts
  pub agree : Agree (members_at w) w.terminations
  pub next_termination : w.limits.first_termination ≤ w.next_termination
  pub last_termination : w.next_termination ≤ last_termination + 1
  pub next_context : w.limits.first_context ≤ w.next_context
  pub last_context : w.next_context ≤ last_context + 1
