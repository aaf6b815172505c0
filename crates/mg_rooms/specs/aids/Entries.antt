-- The entry of a room after a member enters or leaves the room's context.
use Rattle.std.specs.Prelude.{ℕ, [], ◌∷◌, ◌++◌, Option, Some, None}
use Rattle.mg_rooms.specs.declared.context.Context.{Context}
use Rattle.mg_rooms.specs.Changes.{with_members}
use Rattle.mg_rooms.specs.Members.{without}

abbrev pub entered_entry : ℕ → Option Context → Option Context
entered_entry n None = None
entered_entry n (Some x) = Some (record x { members = x.members ++ n ∷ [] })

abbrev pub left_entry : ℕ → Option Context → Option Context
left_entry n None = None
left_entry n (Some x) = with_members x (without n x.members)
