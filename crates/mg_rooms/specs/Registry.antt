-- The terminations and contexts of a gateway (RFC 3525, section 6).
use Rattle.std.specs.Prelude.{ℕ, Bool, not, ◌&&◌, List, [], Option, ◌==◌}
use Rattle.std.specs.Prelude.{find}
use Rattle.std.specs.List.{list_any, range_with_len}
use Rattle.std.specs.Option.{option_map_or}
use Rattle.mg_rooms.specs.declared.record.Record.{Record}
use Rattle.mg_rooms.specs.declared.context.Context.{Context}
use Rattle.mg_rooms.specs.declared.limits.Limits.{Limits}
use Rattle.mg_words.specs.Limits.{context_limit, member_limit}

-- The terminations and contexts in order of their numbers, which is the order in which they were created.
pub record Registry : Type 0 where
  pub limits : Limits
  pub terminations : List Record
  pub contexts : List Context
  pub next_termination : ℕ
  pub next_context : ℕ

-- The registry of a new gateway.
abbrev pub start_of : Limits → Registry
start_of limits =
    record {
      limits = limits;
      terminations = [];
      contexts = [];
      next_termination = limits.first_termination;
      next_context = limits.first_context;
    }

-- ## Lookups

abbrev pub record_at : Registry → ℕ → Option Record
record_at w n = find (λ r. r.number == n) w.terminations

abbrev pub context_at : Registry → ℕ → Option Context
context_at w c = find (λ x. x.number == c) w.contexts

-- The termination in a slot.
abbrev pub holder_of : Registry → ℕ → Option Record
holder_of w slot = find (λ r. r.slot == slot) w.terminations

-- The members of a context, or none if the context does not exist.
abbrev pub members_at : Registry → ℕ → List ℕ
members_at w c = option_map_or (λ x. x.members) (context_at w c) []

-- ## Free slots, rooms and seats

-- The lowest number below n that passes the test.
abbrev pub least_below : ℕ → (ℕ → Bool) → Option ℕ
least_below n test = find test (range_with_len 0 n)

-- The lowest slot without a termination.
abbrev pub free_slot : Registry → Option ℕ
free_slot w =
    least_below w.limits.slots (λ slot. not (list_any (λ r. r.slot == slot) w.terminations))

-- The lowest room without a context.
abbrev pub free_room : Registry → Option ℕ
free_room w = least_below context_limit (λ room. not (list_any (λ x. x.room == room) w.contexts))

-- The lowest seat in the context that no termination holds.
abbrev pub free_seat : Registry → ℕ → Option ℕ
free_seat w c =
    least_below member_limit (λ seat. not
    (list_any (λ r. (r.context == c) && (r.seat == seat)) w.terminations))
