use Rattle.mg_engine.proofs.Common.{view}
use Rattle.mg_engine.proofs.QuietLemmas.{represents}
use Rattle.mg_engine.proofs.engine.Engine.assert_represents.Goals as goal

pub returns-clause-gateway : goal.returns-clause-gateway
returns-clause-gateway c = rw (← c.self.view_is) (represents (view c.self.inside) c.self.invariant.sound)
