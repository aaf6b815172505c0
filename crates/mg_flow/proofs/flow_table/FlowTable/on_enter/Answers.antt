use Rattle.std.proofs.Common.{◌∷◌, arith}
use Rattle.mg_flow.specs.Edits.{Enter}
use Rattle.mg_flow.proofs.HearsLemmas.{enter_hears}
use Rattle.mg_flow.proofs.TableLemmas.{IsRead, enter_stands, IsFlowTable-edited}
use Rattle.mg_flow.proofs.flow_table.FlowTable.on_enter.Goals as goal

pub returns-clause-edits : goal.returns-clause-edits
returns-clause-edits c =
    let read : IsRead c.self.inside.rooms.items c.args.place c.from.result c.from-2.result c.index_mut-room.result.now =
    record {
      number = c.from.ensures;
      seat = c.from-2.ensures;
      within = omega arith;
      is = c.index_mut-room.ensures.value;
    } in
    rw (← c.self.view_is) (enter_stands read c.enter.ensures.edits c.enter.ensures.seat)

pub returns-clause-hears : goal.returns-clause-hears
returns-clause-hears c =
    enter_hears c.args.self.now _ c.args.place c.args.talks c.args.listens
    (rw (← c.self.view_is) c.self.invariant.edits) (returns-clause-edits c)

pub invariant_of-self : goal.invariant_of-self
invariant_of-self c =
    let read : IsRead c.self.inside.rooms.items c.args.place c.from.result c.from-2.result c.index_mut-room.result.now =
    record {
      number = c.from.ensures;
      seat = c.from-2.ensures;
      within = omega arith;
      is = c.index_mut-room.ensures.value;
    } in
    IsFlowTable-edited _ _ _ (λ es. Enter c.args.place c.args.talks c.args.listens ∷ es)
    (enter_stands read c.enter.ensures.edits c.enter.ensures.seat) c.self.invariant
