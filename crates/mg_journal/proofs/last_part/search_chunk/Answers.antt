use Rattle.std.proofs.Common.{arith}
use Rattle.mg_journal.proofs.LastPartLemmas.{all_searched, none_found, some_found}
use Rattle.mg_journal.proofs.last_part.search_chunk.Goals as goal

pub returns-in-Some-clause-value : goal.returns-in-Some-clause-value
returns-in-Some-clause-value g c = λ later.
    some_found (g.F.JournalFile.file c.args.file.now) c.args.whole c.args.at c.args.from c.in-Some.start c.fill.new.buffer
    c.in-Ok.ensures.bytes c.requires.order (omega (arith, c.requires.fits, c.fill.auto.buffer))
    (λ short. omega (arith, c.requires.overlap (omega (arith, short, c.fill.auto.buffer)), c.fill.auto.buffer))
    c.in-Some.ensures.value later

pub returns-in-None-clause-value : goal.returns-in-None-clause-value
returns-in-None-clause-value g c = λ later.
    all_searched (g.F.JournalFile.file c.args.file.now) c.args.whole c.args.at c.if-at-eq0.true
    (none_found (g.F.JournalFile.file c.args.file.now) c.args.whole c.args.at c.args.from c.fill.new.buffer
    c.in-Ok.ensures.bytes c.requires.order (omega (arith, c.requires.fits, c.fill.auto.buffer))
    (λ short. omega (arith, c.requires.overlap (omega (arith, short, c.fill.auto.buffer)), c.fill.auto.buffer))
    c.in-None.ensures.value later)

pub returns-in-None-2-clause-value : goal.returns-in-None-2-clause-value
returns-in-None-2-clause-value g c = λ later.
    none_found (g.F.JournalFile.file c.args.file.now) c.args.whole c.args.at c.args.from c.fill.new.buffer
    c.in-Ok.ensures.bytes c.requires.order (omega (arith, c.requires.fits, c.fill.auto.buffer))
    (λ short. omega (arith, c.requires.overlap (omega (arith, short, c.fill.auto.buffer)), c.fill.auto.buffer))
    c.in-None.ensures.value later
