use Rattle.mg_g711.proofs.Quantized.{order_kept}
use Rattle.mg_g711.proofs.theorems.order_is_kept.Goals as goal

pub returns : goal.returns
returns c = order_kept c.args.law c.args.lower c.args.upper
