use Rattle.std.proofs.Common.{◌≡◌, false, subst}
use Rattle.mg_journal.specs.Journal.{JournalState, renewed}
use Rattle.mg_journal.specs.aids.Appending.{journal_in}
use Rattle.mg_journal.proofs.RenewalLemmas.{holds, renews}
use Rattle.mg_journal.proofs.TextLemmas.{ends_whole}
use Rattle.mg_journal.proofs.file_journal.FileJournalJournal.renew.Goals as goal

pub invariant_of-self : goal.invariant_of-self
invariant_of-self g c =
    holds (g.F.JournalFile.file c.self.inside.file) (g.F.JournalFile.file c.replace_by.new.file) c.args.text.now c.args.durability
    c.chain_of-self-inside.result (ends_whole c.args.text.now c.requires.line_feed) c.in-Ok.ensures.value
    c.chain_of-self-inside.ensures.value

pub returns-in-Ok : goal.returns-in-Ok
returns-in-Ok g c = record {
  value = subst (λ (j : JournalState). journal_in (g.F.JournalFile.file c.replace_by.new.file) false
      ≡ renewed c.args.text.now c.args.durability j) c.self.view_is
      (renews (g.F.JournalFile.file c.self.inside.file) (g.F.JournalFile.file c.replace_by.new.file) c.self.inside.is_broken
      c.args.text.now c.args.durability (ends_whole c.args.text.now c.requires.line_feed) c.in-Ok.ensures.value);
}
