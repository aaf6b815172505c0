-- The results of lookups.
use Rattle.std.specs.Prelude.{ℕ, List, [], Option}
use Rattle.std.specs.Option.{option_map_or}
use Rattle.mg_rooms.specs.declared.context.Context.{Context}

-- The members of a context, or none if the context does not exist.
abbrev pub members_of : Option Context → List ℕ
members_of context = option_map_or (λ x. x.members) context []
