use Rattle.std.proofs.Common.{take, arith}
use Rattle.mg_journal.proofs.OpeningLemmas.{front_more}
use Rattle.mg_journal.proofs.opening.measure_part.Goals as goal

pub returns-in-Some-clause-value : goal.returns-in-Some-clause-value
returns-in-Some-clause-value g c =
    front_more (g.F.JournalFile.file c.args.file.now) c.args.extent c.in-Some.longer (take c.in-Ok.n c.read.new.buffer)
    (c.in-Ok.ensures.value.1 (omega (arith, c.in-Ok.n-test.1, c.in-Ok.ensures.value.0))) c.in-Some.ensures.value
