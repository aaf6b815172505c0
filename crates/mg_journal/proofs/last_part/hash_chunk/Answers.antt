use Rattle.mg_journal.proofs.LastPartLemmas.{hashed_more}
use Rattle.std.proofs.Common.{length}
use Rattle.mg_journal.proofs.last_part.hash_chunk.Goals as goal

pub returns-in-Ok-clause-part : goal.returns-in-Ok-clause-part
returns-in-Ok-clause-part g c = λ start order holds.
    hashed_more (g.F.JournalFile.file c.args.file.now) start c.args.at (length c.args.buffer.now) c.fill.new.buffer
    c.args.chain.now c.extend.new.self c.fill.auto.buffer c.requires.some order c.in-Ok.ensures.bytes
    c.extend.ensures.value holds
