use Rattle.std.proofs.Common.{[], length-append, arith}
use Rattle.std.proofs.lemmas.List.Elements.{All-push}
use Rattle.mg_flow.specs.aids.RoomFlows.{IsVacant}
use Rattle.mg_flow.proofs.TableLemmas.{new_stands}
use Rattle.mg_flow.proofs.flow_table.FlowTable.new.Goals as goal

pub loop-preserved : goal.loop-preserved
loop-preserved c = rw c.in_ok-push.ensures.items (record {
  many = grind (arith, length-append, c.loop.invariant.many);
  vacant = All-push IsVacant _ _ c.loop.invariant.vacant c.new.ensures;
})

pub invariant_of-result : goal.invariant_of-result
invariant_of-result c = record {
  rooms = omega (arith, c.loop.invariant.many);
  edits = ∣ ([], new_stands c.loop.rooms.items c.loop.invariant.vacant) ∣₁;
}

pub returns : goal.returns
returns c = record { edits = new_stands c.loop.rooms.items c.loop.invariant.vacant }
