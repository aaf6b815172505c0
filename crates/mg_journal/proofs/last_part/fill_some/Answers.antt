use Rattle.std.proofs.Common.{◌-◌, length, arith}
use borrow.Rule.Slice.PartMut.{post_of}
use Rattle.mg_journal.proofs.LastPartLemmas.{filled_more}
use Rattle.mg_journal.proofs.last_part.fill_some.Goals as goal

pub returns-in-Ok-clause-bytes : goal.returns-in-Ok-clause-bytes
returns-in-Ok-clause-bytes g c = λ is.
    filled_more (g.F.JournalFile.file c.args.file.now) c.args.at c.args.filled c.in-Ok.n c.args.buffer.now c.read.new.buffer
    (post_of c.args.filled (length c.args.buffer.now - c.args.filled) c.args.buffer.now) c.requires.within
    c.in-Ok.ensures.value.0 (c.in-Ok.ensures.value.1 (omega (arith, c.in-Ok.n-test.1, c.in-Ok.ensures.value.0))) is
