use Rattle.mg_serve.proofs.Runs.{session_run}
use Rattle.mg_serve.proofs.theorems.sessions_are_runs.Goals as goal

pub returns : goal.returns
returns c = session_run
