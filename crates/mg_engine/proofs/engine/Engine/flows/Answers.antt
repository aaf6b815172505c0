use Rattle.mg_engine.proofs.Common.{view}
use Rattle.mg_engine.proofs.FlowLemmas.{tells}
use Rattle.mg_engine.proofs.engine.Engine.flows.Goals as goal

pub returns-clause-represented : goal.returns-clause-represented
returns-clause-represented c w h =
    tells (view c.self.inside) w c.self.invariant.sound c.self.invariant.members (rw (← c.self.view_is) at h)
