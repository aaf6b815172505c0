use Rattle.std.proofs.Common.{◌≡◌, ◌∷◌, true, ap, ◌∙◌}
use Rattle.mg_flow.specs.Edits.{SetMode}
use Rattle.mg_flow.specs.aids.Table.{holds}
use Rattle.mg_flow.proofs.HearsLemmas.{mode_hears}
use Rattle.mg_flow.proofs.TableLemmas.{IsRead, held_within, mode_stands, IsFlowTable-edited}
use Rattle.mg_flow.proofs.flow_table.FlowTable.on_mode.Goals as goal

pub returns-clause-edits : goal.returns-clause-edits
returns-clause-edits c =
    let held : holds c.self.inside.rooms.items c.args.place ≡ true = ap (λ x. holds x c.args.place) c.self.view_is ∙
    c.requires in
    let read : IsRead c.self.inside.rooms.items c.args.place c.from.result c.from-2.result c.index_mut-room.result.now =
    record {
      number = c.from.ensures;
      seat = c.from-2.ensures;
      within = held_within _ _ _ c.from.ensures held;
      is = c.index_mut-room.ensures.value;
    } in
    rw (← c.self.view_is) (mode_stands read c.set_mode.ensures.topology c.set_mode.ensures.seat)

pub returns-clause-hears : goal.returns-clause-hears
returns-clause-hears c =
    mode_hears c.args.self.now _ c.args.place c.args.talks c.args.listens
    (rw (← c.self.view_is) c.self.invariant.edits) (returns-clause-edits c)

pub invariant_of-self : goal.invariant_of-self
invariant_of-self c =
    let held : holds c.self.inside.rooms.items c.args.place ≡ true = ap (λ x. holds x c.args.place) c.self.view_is ∙
    c.requires in
    let read : IsRead c.self.inside.rooms.items c.args.place c.from.result c.from-2.result c.index_mut-room.result.now =
    record {
      number = c.from.ensures;
      seat = c.from-2.ensures;
      within = held_within _ _ _ c.from.ensures held;
      is = c.index_mut-room.ensures.value;
    } in
    IsFlowTable-edited _ _ _ (λ es. SetMode c.args.place c.args.talks c.args.listens ∷ es)
    (mode_stands read c.set_mode.ensures.topology c.set_mode.ensures.seat) c.self.invariant
