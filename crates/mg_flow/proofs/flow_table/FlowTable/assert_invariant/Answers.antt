use Rattle.mg_flow.proofs.flow_table.FlowTable.assert_invariant.Goals as goal

pub returns : goal.returns
returns c = rw (← c.self.view_is) c.self.invariant.edits
