use Rattle.std.proofs.Common.{arith}
use Rattle.mg_text.proofs.KeywordLemmas.{by_letter, no_letter}
use Rattle.mg_text.proofs.keyword.keyword_of.Goals as goal
use Rattle.std.proofs.Common.{sym}

pub returns-in-empty : goal.returns-in-empty
returns-in-empty c = record { value = sym (no_letter c.args.text.now c.in-empty.len_below) }

pub returns-in-len1-up : goal.returns-in-len1-up
returns-in-len1-up c = record {
  value = rw (
    c.word_among.ensures.value,
    c.words_by.ensures.value,
    c.to_ascii_lowercase.ensures.value,
  ) (by_letter c.args.text.now (omega arith));
}
