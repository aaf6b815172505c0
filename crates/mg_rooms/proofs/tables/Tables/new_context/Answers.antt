use Rattle.mg_rooms.proofs.Common.{◌≤◌, sym, refl, arith, Some}
use Rattle.mg_words.specs.declared.limits.TheConstants.{LAST_CONTEXT}
use Rattle.mg_rooms.proofs.CallLemmas.{place_some, place_none, free_room_is}
use Rattle.mg_rooms.proofs.tables.Tables.new_context.Goals as goal

pub returns-in-Some-clause-value : goal.returns-in-Some-clause-value
returns-in-Some-clause-value c =
    let found = rw c.deref.ensures.value at c.in-Some.ensures.value in
    let le : c.self.inside.next_context ≤ LAST_CONTEXT = omega (arith, c.from.ensures, c.if-self-from.true) in
    rw (← c.self.view_is) (place_some c.self.inside c.in-Some.room c.self.invariant found le)

pub returns-in-Some-clause-can : goal.returns-in-Some-clause-can
returns-in-Some-clause-can c =
    let found = rw c.deref.ensures.value at c.in-Some.ensures.value in
    let le : c.self.inside.next_context ≤ LAST_CONTEXT = omega (arith, c.from.ensures, c.if-self-from.true) in
    rw (← c.self.view_is) (sym (free_room_is c.self.inside (Some c.in-Some.room) c.self.invariant found), refl, le)

pub returns-in_default-2-clause-value : goal.returns-in_default-2-clause-value
returns-in_default-2-clause-value c =
    let found = rw c.deref.ensures.value at c.in_default.ensures.value in
    rw (← c.self.view_is) (place_none c.self.inside c.self.invariant found)
