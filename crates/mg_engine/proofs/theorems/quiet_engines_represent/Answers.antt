use Rattle.mg_engine.proofs.QuietLemmas.{quiet_engine, starts_quiet}
use Rattle.mg_engine.proofs.theorems.quiet_engines_represent.Goals as goal

pub returns : goal.returns
returns c = record { start = starts_quiet; theorem = quiet_engine }
