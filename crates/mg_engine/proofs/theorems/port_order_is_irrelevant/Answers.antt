use Rattle.mg_engine.proofs.OrderLemmas.{order_of_two}
use Rattle.mg_engine.proofs.theorems.port_order_is_irrelevant.Goals as goal

pub returns : goal.returns
returns c = record { theorem = order_of_two }
