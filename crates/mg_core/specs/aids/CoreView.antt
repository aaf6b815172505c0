-- The view of a core in contracts: its state, its last answer, and the packets of its last tick.
use Rattle.std.specs.Prelude.{ℕ, List}
use Rattle.mg_engine.specs.declared.datagram.Datagram.{Datagram}
use Rattle.mg_core.specs.declared.state.CoreState.{CoreState}

pub record CoreView : Type 0 where
  pub state : CoreState
  pub answer : List ℕ
  pub outbox : List Datagram
