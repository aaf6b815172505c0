use Rattle.std.proofs.Common.{length, refl, ap, sym}
use Rattle.mg_journal.proofs.TextLemmas.{whole_nil}
use Rattle.mg_journal.proofs.extent.Extent.new.Goals as goal

pub returns : goal.returns
returns c = record { value = (sym (ap length whole_nil), refl) }
