use Rattle.mg_start.proofs.StartText.{starts_read}
use Rattle.mg_start.proofs.theorems.starts_are_read.Goals as goal

pub returns : goal.returns
returns c = record { theorem = starts_read c.recordings_are_read.ensures.theorem }
