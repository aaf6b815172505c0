-- Terminations that are put back, with numbers, slots, seats and rooms that they had before (not from a standard).
use Rattle.std.specs.Prelude.{ℕ, ◌+◌, Bool, not, ◌&&◌, ◌==◌, nat_lt, nat_le, [], ◌∷◌, length}
use Rattle.std.specs.Prelude.{Option, Some, None, is_none, find}
use Rattle.std.specs.List.{list_any}
use Rattle.mg_words.specs.Limits.{context_limit, member_limit, last_termination, last_context}
use Rattle.mg_words.specs.Limits.{min_depth, max_depth}
use Rattle.mg_rooms.specs.declared.context.Context.{Context}
use Rattle.mg_rooms.specs.declared.record.Record.{Record}
use Rattle.mg_rooms.specs.Changes.{joined}
use Rattle.mg_rooms.specs.Registry.{Registry, record_at, context_at, holder_of}
use Rattle.mg_rooms.specs.aids.Order.{place}

-- ## The next numbers

-- Whether the next numbers may be raised to these numbers.
abbrev pub may_skip : Registry → ℕ → ℕ → Bool
may_skip w termination context =
    nat_le w.next_termination termination
    && (nat_le termination (last_termination + 1)
    && (nat_le w.next_context context && nat_le context (last_context + 1)))

abbrev pub skipped : Registry → ℕ → ℕ → Registry
skipped w termination context =
    record w { next_termination = termination; next_context = context }

-- ## One termination

-- The number was assigned before, and the slot, the seat and the depth are within the limits.
abbrev pub is_within : Registry → Record → Bool
is_within w r =
    nat_le w.limits.first_termination r.number
    && (nat_lt r.number w.next_termination
    && (nat_lt r.slot w.limits.slots
    && (nat_lt r.seat member_limit
    && (nat_le min_depth r.depth && nat_le r.depth max_depth))))

-- No termination has the number, the slot, or the seat in this context.
abbrev pub is_free : Registry → Record → Bool
is_free w r =
    is_none (record_at w r.number)
    && (is_none (holder_of w r.slot)
    && not (list_any (λ x. (x.context == r.context) && (x.seat == r.seat)) w.terminations))

-- The context exists in this room and isn't full, or it can be created there with a number that was assigned before.
abbrev pub is_open_in : Registry → ℕ → ℕ → Option Context → Bool
is_open_in w c room (Some x) = (x.room == room) && nat_lt (length x.members) member_limit
is_open_in w c room None =
    nat_le w.limits.first_context c
    && (nat_lt c w.next_context
    && (nat_lt room context_limit && is_none (find (λ x. x.room == room) w.contexts)))

-- Whether a termination with this record can be put back, in a context in this room.
abbrev pub may_restore : Registry → Record → ℕ → Bool
may_restore w r room =
    is_within w r && (is_free w r && is_open_in w r.context room (context_at w r.context))

-- The registry with one more termination.
abbrev pub put_back : Registry → Record → Registry
put_back w r = record w { terminations = place (λ x. x.number) r w.terminations }

-- The registry with one more context, whose only member is n.
abbrev pub reopened : Registry → ℕ → ℕ → ℕ → Registry
reopened w c room n =
    record w {
      contexts = place (λ x. x.number) (record { number = c; room = room; members = n ∷ [] })
          w.contexts;
    }

-- The registry after n becomes the last member of the context c, or its only member if the context doesn't exist.
abbrev pub rejoined_in : Registry → ℕ → ℕ → ℕ → Option Context → Registry
rejoined_in w c room n (Some x) = joined w c n
rejoined_in w c room n None = reopened w c room n

-- The registry after a termination is put back. The termination is the last member of its context.
abbrev pub restored : Registry → Record → ℕ → Registry
restored w r room =
    rejoined_in (put_back w r) r.context room r.number (context_at w r.context)
