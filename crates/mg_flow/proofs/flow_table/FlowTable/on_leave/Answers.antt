use Rattle.std.proofs.Common.{◌≡◌, ◌∷◌, true, ap, ◌∙◌}
use Rattle.mg_flow.specs.Edits.{Leave}
use Rattle.mg_flow.specs.aids.Table.{holds}
use Rattle.mg_flow.proofs.HearsLemmas.{leave_hears}
use Rattle.mg_flow.proofs.TableLemmas.{IsRead, held_within, leave_stands, IsFlowTable-edited}
use Rattle.mg_flow.proofs.flow_table.FlowTable.on_leave.Goals as goal

pub returns-clause-edits : goal.returns-clause-edits
returns-clause-edits c =
    let held : holds c.self.inside.rooms.items c.args.place ≡ true = ap (λ x. holds x c.args.place) c.self.view_is ∙
    c.requires in
    let read : IsRead c.self.inside.rooms.items c.args.place c.from.result c.from-2.result c.index_mut-room.result.now =
    record {
      number = c.from.ensures;
      seat = c.from-2.ensures;
      within = held_within _ _ _ c.from.ensures held;
      is = c.index_mut-room.ensures.value;
    } in
    rw (← c.self.view_is) (leave_stands read c.leave.ensures.edits c.leave.ensures.seat)

pub returns-clause-hears : goal.returns-clause-hears
returns-clause-hears c = leave_hears c.args.self.now _ c.args.place (rw (← c.self.view_is) c.self.invariant.edits)
    (returns-clause-edits c)

pub invariant_of-self : goal.invariant_of-self
invariant_of-self c =
    let held : holds c.self.inside.rooms.items c.args.place ≡ true = ap (λ x. holds x c.args.place) c.self.view_is ∙
    c.requires in
    let read : IsRead c.self.inside.rooms.items c.args.place c.from.result c.from-2.result c.index_mut-room.result.now =
    record {
      number = c.from.ensures;
      seat = c.from-2.ensures;
      within = held_within _ _ _ c.from.ensures held;
      is = c.index_mut-room.ensures.value;
    } in
    IsFlowTable-edited _ _ _ (λ es. Leave c.args.place ∷ es)
    (leave_stands read c.leave.ensures.edits c.leave.ensures.seat) c.self.invariant
