use Rattle.mg_scan.proofs.JoinLemmas.{first_joins}
use Rattle.mg_scan.proofs.scanner.parts_join.Goals as goal

pub returns : goal.returns
returns c = first_joins
