use Rattle.mg_commands.proofs.AgreeLemmas as agree
use Rattle.mg_commands.proofs.theorems.requests_keep_agreement.Goals as goal

pub returns : goal.returns
returns c = record { theorem = agree.requests_keep c.agreement_lasts.ensures.edits c.agreement_lasts.ensures.stats }
