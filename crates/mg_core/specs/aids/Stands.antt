-- The worlds that the state of a core represents.
use Rattle.std.specs.Prelude.{◌≡◌}
use Rattle.mg_engine.specs.aids.Stands as engine_stands
use Rattle.mg_core.specs.declared.state.CoreState.{CoreState}
use Rattle.mg_core.specs.World.{World, counts_of}

-- The engine represents the gateway. The kept replies equal the world's, and so do the counts, each limited to the
-- largest 64-bit value.
pub record StandsFor (state : CoreState) (w : World) : Type 0 where
  pub gateway : engine_stands.StandsFor state.engine w.gateway
  pub replies : w.replies ≡ state.kept
  pub counts : state.counts ≡ counts_of w.tally
