use Rattle.std.proofs.Common.{arith}
use Rattle.std.proofs.lemmas.Bool.Decides.{nat_tests}
use Rattle.mg_flow.proofs.SeatLemmas.{has_seat-empty}
use Rattle.mg_flow.proofs.flow_table.FlowTable.hears.Goals as goal

pub returns-in-None-clause-edits : goal.returns-in-None-clause-edits
returns-in-None-clause-edits c = grind (arith, nat_tests, has_seat-empty)
