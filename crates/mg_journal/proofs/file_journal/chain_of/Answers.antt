use Rattle.std.proofs.Common.{[], refl}
use Rattle.mg_chain.specs.Seals.{last_part}
use Rattle.mg_journal.proofs.file_journal.chain_of.Goals as goal

pub returns : goal.returns
unfolding last_part
returns c = record { value = c.add.ensures.value [] refl c.new-chain.ensures.value }
