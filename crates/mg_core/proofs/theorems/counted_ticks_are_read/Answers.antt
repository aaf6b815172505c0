use Rattle.mg_core.proofs.CountReadBack.{count_is_ticks, script_stays}
use Rattle.mg_core.proofs.theorems.counted_ticks_are_read.Goals as goal

pub returns : goal.returns
returns c = record { line = count_is_ticks; others = script_stays }
