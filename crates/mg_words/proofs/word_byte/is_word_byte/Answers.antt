use Rattle.std.proofs.Common.{arith, false}
use Rattle.mg_words.proofs.WordByteLemmas.{table_at}
use Rattle.mg_words.proofs.word_byte.is_word_byte.Goals as goal

pub returns : goal.returns
returns c = record { value = table_at c.args.b false (omega arith) }
