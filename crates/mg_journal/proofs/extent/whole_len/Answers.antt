use Rattle.std.proofs.Common.{get_or}
use Rattle.mg_journal.proofs.TextLemmas.{feed_of, length_last, length_none}
use Rattle.mg_journal.proofs.extent.whole_len.Goals as goal

pub returns-in-Some : goal.returns-in-Some
returns-in-Some c = record {
  value = length_last c.args.text.now c.in-Some.i c.in-Some.ensures.0 (feed_of (get_or c.args.text.now c.in-Some.i 0) c.in-Some.ensures.1);
}

pub returns-in-None : goal.returns-in-None
returns-in-None c = record { value = length_none c.args.text.now c.in-None.ensures }
