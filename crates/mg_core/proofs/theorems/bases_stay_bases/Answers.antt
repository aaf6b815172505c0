use Rattle.mg_core.proofs.BaseLemmas as bases
use Rattle.mg_core.proofs.ConsistentLemmas.{step_keeps}
use Rattle.mg_core.proofs.theorems.bases_stay_bases.Goals as goal

pub returns : goal.returns
returns c =
    let engine = c.worlds_are_consistent.ensures in
    record {
      starts = bases.starts_are_bases engine.start;
      theorem = bases.bases_stay_bases (step_keeps c.requests_are_consistent.ensures.theorem engine.media)
          c.replies_stay_while_few_are_newer.ensures.distinct;
    }
