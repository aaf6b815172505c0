use Rattle.std.proofs.Common.{◌≡◌, ℕ, true, ap, ◌∙◌}
use Rattle.mg_topology.specs.Mask.{has_seat}
use Rattle.mg_flow.specs.aids.Place.{sibling_place}
use Rattle.mg_flow.specs.aids.Table.{holds, is_silenced}
use Rattle.mg_flow.proofs.TableLemmas.{IsRead, held_within, is_silenced-read, is_silenced-stands}
use Rattle.mg_flow.proofs.flow_table.FlowTable.silenced.Goals as goal

told : (c : goal.After-silenced) → (seat : ℕ) →
    has_seat c.silenced.result.now seat ≡ is_silenced c.args.self.now (sibling_place c.args.place seat) c.args.place
told c seat =
    let held : holds c.self.inside.rooms.items c.args.place ≡ true = ap (λ x. holds x c.args.place) c.self.view_is ∙
    c.requires in
    let read : IsRead c.self.inside.rooms.items c.args.place c.from.result c.from-2.result c.index-room.result.now =
    record {
      number = c.from.ensures;
      seat = c.from-2.ensures;
      within = held_within _ _ _ c.from.ensures held;
      is = c.index-room.ensures;
    } in
    rw (← c.self.view_is) (c.silenced.ensures seat ∙ is_silenced-read read seat)

pub returns-clause-kept : goal.returns-clause-kept
returns-clause-kept c = told c

pub returns-clause-edits : goal.returns-clause-edits
returns-clause-edits c = λ es h seat. told c seat ∙
    is_silenced-stands c.args.self.now es (sibling_place c.args.place seat) c.args.place h
