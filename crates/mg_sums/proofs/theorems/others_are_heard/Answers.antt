use Rattle.mg_sums.specs.Sums.{left_out_by, sample_in}
use Rattle.mg_sums.proofs.HeardLemmas.{others_are, mix_of-others}
use Rattle.mg_sums.proofs.theorems.others_are_heard.Goals as goal

pub returns-clause-heard : goal.returns-clause-heard
returns-clause-heard c = λ kept room i base minus others all.
    (others_are (sample_in kept.frames i) kept.rooms room (left_out_by base minus) others all).0

pub returns-clause-mix : goal.returns-clause-mix
returns-clause-mix c = λ kept room base minus others all. mix_of-others kept room (left_out_by base minus) others all
