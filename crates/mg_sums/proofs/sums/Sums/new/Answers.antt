use Rattle.std.proofs.Common.{refl, rules}
use Rattle.mg_sums.specs.aids.Sums.{first_sums}
use Rattle.mg_sums.proofs.TotalLemmas.{first_rooms, first_totals}
use Rattle.mg_sums.proofs.sums.Sums.new.Goals as goal

pub invariant_of-result : goal.invariant_of-result
invariant_of-result c = first_totals _ _ _ c.in_ok-silent_frames.ensures refl c.in_ok-zero_totals.ensures

pub returns-clause-first : goal.returns-clause-first
unfolding first_sums
returns-clause-first c = rw (c.in_ok-silent_frames.ensures) (search rules)

pub returns-clause-nowhere : goal.returns-clause-nowhere
unfolding first_sums
returns-clause-nowhere c row = first_rooms row

pub returns-clause-valid : goal.returns-clause-valid
returns-clause-valid c = (invariant_of-result c).valid
