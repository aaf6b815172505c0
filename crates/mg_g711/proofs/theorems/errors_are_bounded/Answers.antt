use Rattle.std.proofs.Common.{arith}
use Rattle.std.proofs.lemmas.Int.{ints}
use Rattle.mg_g711.proofs.Errors.{centred, clipped, farthest, near}
use Rattle.mg_g711.proofs.theorems.errors_are_bounded.Goals as goal

pub returns-clause-near : goal.returns-clause-near
returns-clause-near c = near c.args.law c.args.sample

pub returns-clause-clipped : goal.returns-clause-clipped
returns-clause-clipped c = clipped c.args.law c.args.sample

pub returns-clause-farthest : goal.returns-clause-farthest
returns-clause-farthest c = farthest c.args.law c.args.sample (omega (arith, ints))

pub returns-clause-middle : goal.returns-clause-middle
returns-clause-middle c = λ k some small. (centred c.args.law k small).middle some
