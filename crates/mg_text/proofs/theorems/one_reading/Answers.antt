use Rattle.mg_text.proofs.OneReading.{same_reading, some_reading}
use Rattle.mg_text.proofs.theorems.one_reading.Goals as goal

pub returns : goal.returns
returns c = record {
  some = let (ts, fault, are) = c.bytes_are_tokens.ensures.tokens in some_reading c.args.source.now ts fault are;
  at_most_one = same_reading;
}
