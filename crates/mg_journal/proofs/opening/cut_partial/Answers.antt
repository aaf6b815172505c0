use Rattle.mg_journal.proofs.OpeningLemmas.{journal_cut, no_partial, text_cut}
use Rattle.mg_journal.proofs.opening.cut_partial.Goals as goal

pub returns-then-extent-clause-journal : goal.returns-then-extent-clause-journal
returns-then-extent-clause-journal g c = λ is sound.
    no_partial (g.F.JournalFile.file c.args.file.now) c.args.extent c.if-extent.true is sound

pub returns-clause-journal : goal.returns-clause-journal
returns-clause-journal g c = λ is sound.
    journal_cut c.cut.result (g.F.JournalFile.file c.args.file.now) (g.F.JournalFile.file c.cut.new.self) c.args.extent
    c.cut.ensures.value is

pub returns-clause-text : goal.returns-clause-text
returns-clause-text g c = λ is.
    text_cut c.cut.result (g.F.JournalFile.file c.args.file.now) (g.F.JournalFile.file c.cut.new.self) c.args.extent
    c.cut.ensures.value is
