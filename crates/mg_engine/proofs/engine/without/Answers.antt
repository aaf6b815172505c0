use Rattle.mg_engine.proofs.Common.{rules}
use Rattle.arrayvec.proofs.ArrayVecLemmas.{filter-from_retain}
use Rattle.mg_engine.proofs.engine.without.Goals as goal

pub returns : goal.returns
returns c = record { value = filter-from_retain _ _ _ (λ x b f' y called. search rules) _ _ c.retain.ensures.filtered }
