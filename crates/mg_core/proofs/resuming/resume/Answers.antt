use Rattle.mg_core.specs.World.{start_of}
use Rattle.mg_core.proofs.resuming.resume.Goals as goal

pub returns-clause-resumed : goal.returns-clause-resumed
returns-clause-resumed g c = c.resume_from.ensures.resumed (start_of c.args.config) c.in_ok-core.ensures.started.2

pub returns-clause-script : goal.returns-clause-script
returns-clause-script g c number =
    c.resume_from.ensures.script (start_of c.args.config) number c.in_ok-core.ensures.started.2

pub returns-clause-stops : goal.returns-clause-stops
returns-clause-stops g c = c.resume_from.ensures.stops (start_of c.args.config) c.in_ok-core.ensures.started.2
