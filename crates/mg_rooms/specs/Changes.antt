-- The effects of a command on terminations and contexts.
use Rattle.std.specs.Prelude.{ℕ, ◌+◌, List, [], ◌∷◌, ◌++◌, Option, Some, None, ◌==◌, if◌then◌else◌}
use Rattle.std.specs.Prelude.{option_to_list}
use Rattle.std.specs.Option.{option_map_or}
use Rattle.mg_rooms.specs.declared.record.Record.{Record}
use Rattle.mg_rooms.specs.declared.context.Context.{Context}
use Rattle.mg_rooms.specs.declared.place.EntryPlace.{EntryPlace}
use Rattle.mg_rooms.specs.Members.{without}
use Rattle.mg_rooms.specs.Registry.{Registry}

-- The list with the first item of key n replaced by what f returns, or removed if f returns nothing.
abbrev pub change : {A : Type 0} → (A → ℕ) → ℕ → (A → Option A) → List A → List A
change key n f [] = []
change key n f (x ∷ xs) = if key x == n then option_to_list (f x) ++ xs else x ∷ change key n f xs

-- ## Terminations

-- The registry after the termination r is created. The next number increases by one.
abbrev pub inserted : Registry → Record → Registry
inserted w r =
    record w { terminations = w.terminations ++ r ∷ []; next_termination = w.next_termination + 1 }

-- The registry after the termination with the number of r gets the record r.
abbrev pub replaced : Registry → Record → Registry
replaced w r =
    record w { terminations = change (λ x. x.number) r.number (λ _. Some r) w.terminations }

-- The registry after the termination n is removed.
abbrev pub removed : Registry → ℕ → Registry
removed w n = record w { terminations = change (λ x. x.number) n (λ _. None) w.terminations }

-- ## Contexts

-- The registry after a context is created in a room, with n as its first member.
abbrev pub made : Registry → ℕ → ℕ → ℕ → Registry
made w c room n =
    record w {
      contexts = w.contexts ++ record { number = c; room = room; members = n ∷ [] } ∷ [];
      next_context = w.next_context + 1;
    }

-- The registry after n becomes the last member of the context c.
abbrev pub joined : Registry → ℕ → ℕ → Registry
joined w c n =
    record w {
      contexts = change (λ x. x.number) c
          (λ x. Some (record x { members = x.members ++ n ∷ [] })) w.contexts;
    }

-- The registry after n enters a context, which either exists or is created for n.
abbrev pub entered : Registry → EntryPlace → ℕ → Registry
entered w place n =
    option_map_or (λ room. made w place.context room n) place.made (joined w place.context n)

-- The context with these members, or nothing if there are no members.
abbrev pub with_members : Context → List ℕ → Option Context
with_members x [] = None
with_members x (m ∷ ms) = Some (record x { members = m ∷ ms })

-- The registry after n leaves the context c. The context ends if it has no other member.
abbrev pub left : Registry → ℕ → ℕ → Registry
left w c n =
    record w {
      contexts = change (λ x. x.number) c
          (λ x. with_members x (without n x.members)) w.contexts;
    }
