use Rattle.mg_reply.proofs.PrefixLemmas.{no_proper_prefix}
use Rattle.mg_reply.proofs.theorems.no_proper_prefix.Goals as goal

pub returns : goal.returns
returns c = record { prefix = no_proper_prefix }
