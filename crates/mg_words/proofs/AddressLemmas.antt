-- Rules that bound the length of an address in dotted decimal.
use Rattle.std.proofs.Common.{append_assoc}
use Rattle.mg_words.proofs.DecimalLemmas.{byte_short}

pub ruleset lengths = (byte_short, append_assoc)
