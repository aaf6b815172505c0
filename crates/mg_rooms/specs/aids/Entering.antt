-- The places at which a termination can enter.
use Rattle.std.specs.Prelude.{◌≡◌, ℕ, ◌<◌, ◌≤◌, List, length, Option, Some, None, not, ◌==◌, find}
use Rattle.std.specs.List.{list_any}
use Rattle.std.specs.Option.{option_map_or}
use Rattle.mg_rooms.specs.declared.context.Context.{Context}
use Rattle.mg_rooms.specs.declared.place.EntryPlace.{EntryPlace}
use Rattle.mg_words.specs.Limits.{context_limit, member_limit, last_context}
use Rattle.mg_rooms.specs.Registry.{Registry, least_below}
use Rattle.mg_rooms.specs.Changes.{made, joined}
use Rattle.mg_rooms.specs.aids.Found.{members_of}

-- A new context has the next number and the lowest free room, or the existing context is not full.
abbrev pub CanEnterAt : List Context → ℕ → ℕ → Option ℕ → Type 0
CanEnterAt contexts next c (Some room) =
    (least_below context_limit (λ k. not (list_any (λ x. x.room == k) contexts)) ≡ Some room)
    × (c ≡ next) × (next ≤ last_context)
CanEnterAt contexts next c None =
    length (members_of (find (λ x. x.number == c) contexts)) < member_limit

abbrev pub CanEnter : Registry → EntryPlace → Type 0
CanEnter w place = CanEnterAt w.contexts w.next_context place.context place.made

-- The registry after n enters at a place. If a context is created for n, `room` is its room.
abbrev pub entered_at : Registry → EntryPlace → ℕ → Option ℕ → Registry
entered_at w place n room =
    option_map_or (λ room. made w place.context room n) room (joined w place.context n)
