use Rattle.mg_reply.proofs.WideLemmas.{text_alone, all_there}
use Rattle.mg_reply.proofs.theorems.too_long_by_text.Goals as goal

pub returns : goal.returns
returns c = record { theorem = text_alone; kept = all_there }
