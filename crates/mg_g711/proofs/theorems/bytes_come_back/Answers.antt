use Rattle.std.proofs.Common.{arith}
use Rattle.mg_g711.proofs.Quantized.{byte_comes_back, negative_zero, sample_comes_back}
use Rattle.mg_g711.proofs.theorems.bytes_come_back.Goals as goal

pub returns-clause-same : goal.returns-clause-same
returns-clause-same c = λ other. byte_comes_back c.args.law c.args.byte (omega arith) other

pub returns-clause-negative_zero : goal.returns-clause-negative_zero
returns-clause-negative_zero c = negative_zero

pub returns-clause-sample : goal.returns-clause-sample
returns-clause-sample c = sample_comes_back c.args.law c.args.byte (omega arith)
