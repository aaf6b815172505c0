-- Searches and writes in the tables, in terms of the registry that the tables represent.
use Rattle.mg_rooms.proofs.Common.{◌≡◌, ℕ, ◌+◌, ◌<◌, ◌≤◌, ◌&&◌, ◌==◌, Bool, List, [], ◌∷◌, ◌++◌, option_and_then, vec_len, length, Option, Some, None, refl, sym, ◌∙◌, ap, arith, get_or, slice_get, find, option_map, is_none, not, Ok, Err, suc, subst, true, false, set, IfSome, list_any, position_from, range_with_len, slice_get_read, Record, Context, NoContextLeft, eqb-true, lt-ltb, le-ltb, le-leb, in_order, has_key, passes_at, change, with_members, without, new_context, CONTEXT_LIMIT, MEMBER_LIMIT, LAST_CONTEXT, registry_of, Registry, record_at, context_at, free_slot, free_room, free_seat, members_of}
use Rattle.std.proofs.lemmas.Bool.Decides.{nat_tests}
use Rattle.std.proofs.lemmas.Option.{get_or_from_slice_get, slice_get_past}
use Rattle.mg_rooms.specs.declared.tables.Tables.TheInside.{Inside}
use Rattle.mg_rooms.specs.aids.Entries.{entered_entry, left_entry}
use Rattle.mg_rooms.specs.aids.Tables.{HasTables, IsTable}
use Rattle.mg_rooms.proofs.OrderLemmas.{any-in_order, change_none, in_order-push, length-in_order_room, length-in_order_full, find-in_order, first_at_zero}
use Rattle.mg_rooms.proofs.ListsLemmas.{keeps-number, keeps-room, keeps_left}
use Rattle.mg_rooms.proofs.TableLemmas.{lookup_some, lookup_none, table_change, free-in_order, find_spot, entry_at, empty_place, IsTable-set}

-- The room of a context is its index in the table.
pub room_some : (a : Inside) (n s : ℕ) → HasTables a →
    Some s ≡ position_from (has_key (λ x. x.number) n) 0 a.rooms.items →
    Some s ≡ option_map (λ x. x.room) (context_at (registry_of a) n)
room_some a n s kept found =
    let first = first_at_zero (has_key (λ x. x.number) n) a.rooms.items s (sym found) in
    grind (arith, find-in_order (λ x. x.number) n a.rooms.items s first)

pub free_slot_is : (a : Inside) (o : Option ℕ) → HasTables a → o ≡ position_from is_none 0 a.slots.items →
    o ≡ free_slot (registry_of a)
free_slot_is a o kept found =
    found ∙ free-in_order (λ r. r.number) (λ r. r.slot) a.next_termination a.limits.slots a.slots.items kept.slots

pub free_room_is : (a : Inside) (o : Option ℕ) → HasTables a → o ≡ position_from is_none 0 a.rooms.items →
    o ≡ free_room (registry_of a)
free_room_is a o kept found =
    found ∙ free-in_order (λ x. x.number) (λ x. x.room) a.next_context CONTEXT_LIMIT a.rooms.items kept.rooms

find_free : (held : List Bool) (test : ℕ → Bool) (k : ℕ) →
    ((i j : ℕ) → j ≡ i + k → i < length held → get_or held i true ≡ test j) →
    position_from not k held ≡ find (λ s. not (test s)) (range_with_len k (length held))
find_free [] test k h = refl
find_free (true ∷ held) test k h =
    let is : true ≡ test k = h 0 k (omega arith) (omega arith) in
    rw (← is) (find_free held test (k + 1) (λ i j eq lt. h (suc i) j (omega arith) (omega arith)))
find_free (false ∷ held) test k h = grind (arith, h 0 k)

-- The first seat that is not held is the seat that `free_seat` returns.
pub free_seat_is : (a : Inside) (c : ℕ) (held : List Bool) → length held ≡ MEMBER_LIMIT
    → ((seat : ℕ) → seat < MEMBER_LIMIT → get_or held seat true ≡
    list_any (passes_at (λ r. (r.context == c) && (r.seat == seat))) a.slots.items)
    → position_from not 0 held ≡ free_seat (registry_of a) c
free_seat_is a c held long h =
    find_free held (λ seat. list_any (λ r. (r.context == c) && (r.seat == seat)) ((registry_of a).terminations)) 0
    (λ i j same lt. let eq : i ≡ j = omega arith in
    subst (λ (k : ℕ). get_or held i true ≡ list_any (λ r. (r.context == c) && (r.seat == k))
    ((registry_of a).terminations)) eq (h i (omega arith) ∙
    sym (any-in_order (λ r. r.number) (λ r. (r.context == c) && (r.seat == i)) a.slots.items)))
    ∙ ap (λ (n : ℕ). find (λ seat. not (list_any (λ r. (r.context == c) && (r.seat == seat))
    ((registry_of a).terminations))) (range_with_len 0 n)) long

slot_entry : (a : Inside) (s : ℕ) (o : Option Record) → s < length a.slots.items → o ≡ get_or a.slots.items s o →
    slice_get a.slots.items s ≡ Some o
slot_entry a s o lt at = slice_get_read a.slots.items (length a.slots.items) s o refl lt at

pub at_slot_is : (a : Inside) (s : ℕ) (o : Option Record) → HasTables a → s < length a.slots.items →
    o ≡ get_or a.slots.items s o → o ≡ find (λ r. r.slot == s) ((registry_of a).terminations)
at_slot_is a s o kept lt at =
    sym (find_spot (λ r. r.number) (λ r. r.slot) a.next_termination a.limits.slots a.slots.items s kept.slots ∙
    ap entry_at (slot_entry a s o lt at))

pub at_slot_past : (a : Inside) (s : ℕ) → HasTables a → length a.slots.items ≤ s →
    None ≡ find (λ r. r.slot == s) ((registry_of a).terminations)
at_slot_past a s kept le =
    sym (find_spot (λ r. r.number) (λ r. r.slot) a.next_termination a.limits.slots a.slots.items s kept.slots ∙
    ap entry_at (slice_get_past a.slots.items s le))

-- If a context number is left, a new context gets the first empty room of the table.
pub place_some : (a : Inside) (room : ℕ) → HasTables a → Some room ≡ position_from is_none 0 a.rooms.items →
    a.next_context ≤ LAST_CONTEXT → Ok (record { context = a.next_context; seat = 0; made = Some room }) ≡
    new_context (registry_of a)
place_some a room kept found le =
    let free = free_room_is a (Some room) kept found in
    let empty = empty_place (λ x. x.number) (λ x. x.room) a.next_context CONTEXT_LIMIT a.rooms.items room kept.rooms in
    grind (arith, nat_tests, free, empty, length-in_order_room (λ x. x.number) a.rooms.items room)

pub place_none : (a : Inside) → HasTables a → None ≡ position_from is_none 0 a.rooms.items →
    Err NoContextLeft ≡ new_context (registry_of a)
place_none a kept found =
    grind (arith, nat_tests, length-in_order_full (λ x. x.number) a.rooms.items 0 (sym found))

-- ## Writes

-- Predicates for a table of terminations by slot and for a table of contexts by room, and functions that replace the
-- terminations or the contexts of a registry.
abbrev pub AreSlots : ℕ → ℕ → List (Option Record) → Type 0
AreSlots next size t = IsTable (λ r. r.number) (λ r. r.slot) next size t

abbrev pub AreRooms : ℕ → ℕ → List (Option Context) → Type 0
AreRooms next size t = IsTable (λ x. x.number) (λ x. x.room) next size t

abbrev pub with_terminations : Registry → List Record → Registry
with_terminations w rs = record w { terminations = rs }

abbrev pub with_contexts : Registry → List Context → Registry
with_contexts w xs = record w { contexts = xs }

-- These functions replace the terminations or the contexts of a registry after a termination or a context is created,
-- and increase the next number.
abbrev pub with_more : Registry → List Record → Registry
with_more w rs = record w { terminations = rs; next_termination = w.next_termination + 1 }

abbrev pub with_made : Registry → List Context → Registry
with_made w xs = record w { contexts = xs; next_context = w.next_context + 1 }

pub unchanged_termination : (a : Inside) (n : ℕ) (f : Record → Option Record) →
    None ≡ position_from (has_key (λ r. r.number) n) 0 a.slots.items →
    registry_of a ≡ record (registry_of a) { terminations = change (λ r. r.number) n f ((registry_of a).terminations) }
unchanged_termination a n f found =
    ap (with_terminations (registry_of a)) (sym (change_none (λ r. r.number) n f ((registry_of a).terminations)
    (lookup_none (λ r. r.number) (λ r. r.slot) n a.slots.items found)))

pub unchanged_context : (a : Inside) (n : ℕ) (f : Context → Option Context) →
    None ≡ position_from (has_key (λ x. x.number) n) 0 a.rooms.items →
    registry_of a ≡ record (registry_of a) { contexts = change (λ x. x.number) n f ((registry_of a).contexts) }
unchanged_context a n f found =
    ap (with_contexts (registry_of a)) (sym (change_none (λ x. x.number) n f ((registry_of a).contexts)
    (lookup_none (λ x. x.number) (λ x. x.room) n a.rooms.items found)))

pub slot_is_empty : (a : Inside) (s : ℕ) → HasTables a → free_slot (registry_of a) ≡ Some s →
    (slice_get a.slots.items s ≡ Some None) × (s < length a.slots.items)
slot_is_empty a s kept free = empty_place (λ r. r.number) (λ r. r.slot) a.next_termination a.limits.slots
    a.slots.items s kept.slots free

pub room_is_empty : (a : Inside) (s : ℕ) → HasTables a → free_room (registry_of a) ≡ Some s →
    (slice_get a.rooms.items s ≡ Some None) × (s < length a.rooms.items)
room_is_empty a s kept free = empty_place (λ x. x.number) (λ x. x.room) a.next_context CONTEXT_LIMIT a.rooms.items s
    kept.rooms free

-- These lemmas are about overwriting or removing the entry of a termination, which replaces or removes the termination.
pub replaced_there : (a : Inside) (r : Record) (s : ℕ) → HasTables a →
    Some s ≡ position_from (has_key (λ x. x.number) r.number) 0 a.slots.items →
    IfSome (record_at (registry_of a) r.number) (λ x. x.slot ≡ r.slot)
    → AreSlots a.next_termination a.limits.slots (set a.slots.items s (Some r)) ×
    (in_order (λ x. x.number) (set a.slots.items s (Some r)) ≡
    change (λ x. x.number) r.number (λ _. Some r) ((registry_of a).terminations))
replaced_there a r s kept found same =
    let (x, at, table, is) = table_change (λ x. x.number) (λ x. x.slot) a.next_termination a.limits.slots a.slots.items
    r.number s (λ _. Some r) (λ x e. sym (eqb-true x.number r.number e)) (λ x is. sym (rw is at
    same)) kept.slots found in
    (table, is)

pub removed_there : (a : Inside) (n s : ℕ) → HasTables a →
    Some s ≡ position_from (has_key (λ x. x.number) n) 0 a.slots.items
    → AreSlots a.next_termination a.limits.slots (set a.slots.items s None) ×
    (in_order (λ x. x.number) (set a.slots.items s None) ≡
    change (λ x. x.number) n (λ _. None) ((registry_of a).terminations))
removed_there a n s kept found =
    let (x, at, table, is) = table_change (λ x. x.number) (λ x. x.slot) a.next_termination
    a.limits.slots a.slots.items n
    s (λ _. None) (λ x e. tt) (λ x is. tt) kept.slots found in
    (table, is)

pub inserted_kept : (next size : ℕ) (t : List (Option Record)) (r : Record) → AreSlots next size t → r.number ≡ next →
    AreSlots (next + 1) size (set t r.slot (Some r))
inserted_kept next size t r h number =
    grind (arith, nat_tests, IsTable-set (λ x. x.number) (λ x. x.slot) next (next + 1) size t r.slot (Some r))

pub inserted_is : (a : Inside) (r : Record) → HasTables a → free_slot (registry_of a) ≡ Some r.slot →
    r.number ≡ a.next_termination → in_order (λ x. x.number) (set a.slots.items r.slot (Some r)) ≡
    in_order (λ x. x.number) a.slots.items ++ (r ∷ [])
inserted_is a r kept free number =
    in_order-push (λ x. x.number) a.slots.items r.slot r (slot_is_empty a r.slot kept free).0
    (λ i y at. let lt : y.number < a.next_termination = kept.slots.below i y at in omega arith)

pub made_kept : (next size : ℕ) (t : List (Option Context)) (x : Context) → AreRooms next size t → x.number ≡ next →
    AreRooms (next + 1) size (set t x.room (Some x))
made_kept next size t x h number =
    grind (arith, nat_tests, IsTable-set (λ y. y.number) (λ y. y.room) next (next + 1) size t x.room (Some x))

pub made_is : (a : Inside) (x : Context) → HasTables a → free_room (registry_of a) ≡ Some x.room →
    x.number ≡ a.next_context → in_order (λ y. y.number) (set a.rooms.items x.room (Some x)) ≡
    in_order (λ y. y.number) a.rooms.items ++ (x ∷ [])
made_is a x kept free number =
    in_order-push (λ y. y.number) a.rooms.items x.room x (room_is_empty a x.room kept free).0
    (λ i y at. let lt : y.number < a.next_context = kept.rooms.below i y at in omega arith)

abbrev pub with_last : ℕ → Context → Option Context
with_last n x = Some (record x { members = x.members ++ (n ∷ []) })

entered_and_then : (n : ℕ) (o : Option Context) → entered_entry n o ≡ option_and_then (with_last n) o
entered_and_then n None = refl
entered_and_then n (Some x) = refl

left_and_then : (n : ℕ) (o : Option Context) →
    left_entry n o ≡ option_and_then (λ x. with_members x (without n x.members)) o
left_and_then n None = refl
left_and_then n (Some x) = refl

-- If f changes the entry of a room but keeps its number and room, or removes the entry, the context changes in the same
-- way.
context_change : (a : Inside) (n s : ℕ) (f : Context → Option Context) (old new : Option Context) →
    ((x : Context) → IfSome (f x) (λ y. (y.number ≡ x.number) × (y.room ≡ x.room))) → HasTables a →
    Some s ≡ position_from (has_key (λ x. x.number) n) 0 a.rooms.items → old ≡ get_or a.rooms.items s old →
    new ≡ option_and_then f old
    → AreRooms a.next_context CONTEXT_LIMIT (set a.rooms.items s new) × (in_order (λ x. x.number) (set a.rooms.items s new)
    ≡ change (λ x. x.number) n f ((registry_of a).contexts))
context_change a n s f old new keeps kept found was is =
    let (x, at, table, change_is) = table_change (λ x. x.number) (λ x. x.room) a.next_context CONTEXT_LIMIT a.rooms.items n s
    f (λ x _. keeps-number x (f x) (keeps x)) (λ x _. keeps-room x (f x) (keeps x)) kept.rooms found in
    let old_is = was ∙ get_or_from_slice_get a.rooms.items s (Some x) old at in
    rw (is ∙ ap (option_and_then f) old_is) (table, change_is)

-- After n enters the context c in the table, the registry has n as the last member of c.
pub entered_there : (a : Inside) (c n s : ℕ) (old new : Option Context) → HasTables a →
    Some s ≡ position_from (has_key (λ x. x.number) c) 0 a.rooms.items → old ≡ get_or a.rooms.items s old →
    new ≡ entered_entry n old
    → AreRooms a.next_context CONTEXT_LIMIT (set a.rooms.items s new) ×
    (in_order (λ x. x.number) (set a.rooms.items s new) ≡
    change (λ x. x.number) c (with_last n) ((registry_of a).contexts))
entered_there a c n s old new kept found was is =
    context_change a c s (with_last n) old new (λ x. (refl, refl)) kept found was (is ∙ entered_and_then n old)

-- After n leaves the context c in the table, the registry has c without n.
pub left_there : (a : Inside) (c n s : ℕ) (old new : Option Context) → HasTables a →
    Some s ≡ position_from (has_key (λ x. x.number) c) 0 a.rooms.items → old ≡ get_or a.rooms.items s old →
    new ≡ left_entry n old
    → AreRooms a.next_context CONTEXT_LIMIT (set a.rooms.items s new) ×
    (in_order (λ x. x.number) (set a.rooms.items s new) ≡
    change (λ x. x.number) c (λ x. with_members x (without n x.members)) ((registry_of a).contexts))
left_there a c n s old new kept found was is =
    context_change a c s (λ x. with_members x (without n x.members)) old new
    (λ x. keeps_left x (without n x.members)) kept found was (is ∙ left_and_then n old)

-- If the context c of the registry is not full, neither is the context in the entry that was found for c.
pub may_enter : (a : Inside) (c s : ℕ) (o : Option Context) →
    Some s ≡ position_from (has_key (λ x. x.number) c) 0 a.rooms.items → o ≡ get_or a.rooms.items s o →
    length (members_of (context_at (registry_of a) c)) < MEMBER_LIMIT → IfSome o (λ x. length x.members < MEMBER_LIMIT)
may_enter a c s o found was few =
    let is : o ≡ context_at (registry_of a) c =
    lookup_some (λ x. x.number) (λ x. x.room) c a.rooms.items s o found was in
    not_full o (rw is few)
  where
    not_full : (p : Option Context) → length (members_of p) < MEMBER_LIMIT → IfSome p (λ x. length x.members < MEMBER_LIMIT)
    not_full None lt = tt
    not_full (Some x) lt = lt

pub few_rooms : (a : Inside) (s : ℕ) → s < length a.rooms.items → s < vec_len a.rooms
few_rooms a s lt = omega (arith, a.rooms.ok)

-- Writing a new context with one member into a free room appends the context to the registry.
pub made_context_is : (a : Inside) (c room n : ℕ) (v : List ℕ) → HasTables a → free_room (registry_of a) ≡ Some room →
    c ≡ a.next_context → v ≡ n ∷ [] → in_order (λ y. y.number)
    (set a.rooms.items room (Some (record { number = c; room = room; members = v }))) ≡
    in_order (λ y. y.number) a.rooms.items ++ (record { number = c; room = room; members = n ∷ [] } ∷ [])
made_context_is a c room n v kept free number is = grind (arith, made_is a)

-- The entry of a room is the context in this room, or empty if no context is in the room.
pub at_room_is : (a : Inside) (s : ℕ) (o : Option Context) → HasTables a → s < length a.rooms.items →
    o ≡ get_or a.rooms.items s o → o ≡ find (λ x. x.room == s) ((registry_of a).contexts)
at_room_is a s o kept lt at =
    sym (find_spot (λ x. x.number) (λ x. x.room) a.next_context CONTEXT_LIMIT a.rooms.items s kept.rooms ∙
    ap entry_at (slice_get_read a.rooms.items (length a.rooms.items) s o refl lt at))
