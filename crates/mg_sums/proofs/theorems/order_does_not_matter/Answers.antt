use Rattle.mg_sums.specs.Sums.{sample_in}
use Rattle.mg_sums.proofs.HeardLemmas.{all_is}
use Rattle.mg_sums.proofs.theorems.order_does_not_matter.Goals as goal

pub returns : goal.returns
returns c = λ kept room i rows all. all_is (sample_in kept.frames i) kept.rooms room rows all
