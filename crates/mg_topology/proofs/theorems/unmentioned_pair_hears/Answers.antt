use Rattle.std.proofs.Common.{ap}
use Rattle.mg_topology.specs.Edits.{allows}
use Rattle.mg_topology.proofs.EditLemmas.{last_word-entered}
use Rattle.mg_topology.proofs.theorems.unmentioned_pair_hears.Goals as goal

pub returns : goal.returns
returns c = λ newer older n a b p q. ap (λ word. allows word a b) (last_word-entered newer older n a b p q)
