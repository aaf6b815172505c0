use Rattle.mg_chain.proofs.PartLemmas.{found, too_short}
use Rattle.std.proofs.Common.{Some, None, arith}
use Rattle.mg_chain.proofs.part.mark_start.Goals as goal

pub returns-in-Some : goal.returns-in-Some
returns-in-Some c = record { value = found c.args.text.now (Some c.in-Some.i) c.in-Some.ensures }

pub returns-in-None : goal.returns-in-None
returns-in-None c = record { value = found c.args.text.now None c.in-None.ensures }

pub returns-then-text : goal.returns-then-text
returns-then-text c = record { value = too_short c.args.text.now (omega (arith, c.if-text.true)) }
