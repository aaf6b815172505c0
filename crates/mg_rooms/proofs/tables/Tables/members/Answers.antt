use Rattle.mg_rooms.proofs.Common.{sym, ◌∙◌, ap}
use Rattle.mg_rooms.specs.aids.Found.{members_of}
use Rattle.mg_rooms.proofs.TableLemmas.{lookup_some, lookup_none}
use Rattle.mg_rooms.proofs.tables.Tables.members.Goals as goal

pub returns-in-Some-index-clause-value : goal.returns-in-Some-index-clause-value
returns-in-Some-index-clause-value c =
    let found = rw c.deref.ensures.value at c.in-Some.ensures.value in
    let is = lookup_some (λ x. x.number) (λ x. x.room) c.args.context c.self.inside.rooms.items c.in-Some.room
    c.index.result.now found c.index.ensures in
    rw (← c.self.view_is) (c.as_slice.ensures.value ∙ ap members_of (sym c.in-Some-index.is ∙ is))

pub returns-in-None-index-clause-value : goal.returns-in-None-index-clause-value
returns-in-None-index-clause-value c =
    let found = rw c.deref.ensures.value at c.in-Some.ensures.value in
    let is = lookup_some (λ x. x.number) (λ x. x.room) c.args.context c.self.inside.rooms.items c.in-Some.room
    c.index.result.now found c.index.ensures in
    rw (← c.self.view_is) (ap members_of (sym c.in-None-index.is ∙ is))

pub returns-in-None-clause-value : goal.returns-in-None-clause-value
returns-in-None-clause-value c =
    let found = rw c.deref.ensures.value at c.in-None.ensures.value in
    rw (← c.self.view_is) (ap members_of (lookup_none (λ x. x.number) (λ x. x.room) c.args.context
    c.self.inside.rooms.items found))
