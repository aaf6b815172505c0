use Rattle.std.proofs.Common.{ℕ, Bool, subst, sym, Ok, Err}
use Rattle.mg_journal.specs.Journal.{Appends, JournalState}
use Rattle.mg_journal.specs.declared.append_fault.AppendFault.TheVariants.{Broken}
use Rattle.mg_journal.specs.aids.Appending.{IsJournal, journal_in}
use Rattle.mg_journal.proofs.AppendLemmas.{left_as, put_as, still_broken}
use Rattle.mg_journal.proofs.HashLemmas.{hash_put}
use Rattle.mg_journal.proofs.TextLemmas.{ends_whole}
use Rattle.mg_journal.proofs.file_journal.FileJournalJournal.append.Goals as goal

pub returns-then-self : goal.returns-then-self
returns-then-self g c = record {
  value = subst (λ (j : JournalState). Appends c.args.lines.now c.args.durability j j (Err Broken)) c.self.view_is
      (still_broken (journal_in (g.F.JournalFile.file c.self.inside.file) c.self.inside.is_broken) c.args.durability
      c.args.lines.now c.if-self.true);
}

pub invariant_of-self : goal.invariant_of-self
invariant_of-self g c = (
  subst (λ (n : ℕ). IsJournal (g.F.JournalFile.file c.put_lines.new.file) n c.self.inside.is_broken) (sym c.in-Some.ensures.1)
      (put_as c.self.inside.is_broken c.args.durability (g.F.JournalFile.file c.self.inside.file)
      (g.F.JournalFile.file c.put_lines.new.file) c.self.inside.len c.args.lines.now c.if-self.false c.self.invariant.0
      (ends_whole c.args.lines.now c.requires.line_feed) c.in-Ok.ensures.value).0,
  hash_put c.self.inside.is_broken c.args.durability (g.F.JournalFile.file c.self.inside.file)
      (g.F.JournalFile.file c.put_lines.new.file) c.self.inside.len c.args.lines.now c.self.inside.chain c.add.new.self
      c.if-self.false c.self.invariant.0 c.self.invariant.1 c.add.ensures.value c.in-Ok.ensures.value,
)

pub returns-in-Ok : goal.returns-in-Ok
returns-in-Ok g c = record {
  value = subst (λ (j : JournalState). Appends c.args.lines.now c.args.durability j
      (journal_in (g.F.JournalFile.file c.put_lines.new.file) c.self.inside.is_broken)
      (Ok tt)) c.self.view_is
      (put_as c.self.inside.is_broken c.args.durability (g.F.JournalFile.file c.self.inside.file)
      (g.F.JournalFile.file c.put_lines.new.file) c.self.inside.len c.args.lines.now c.if-self.false c.self.invariant.0
      (ends_whole c.args.lines.now c.requires.line_feed) c.in-Ok.ensures.value).1;
}

pub returns-in-Err : goal.returns-in-Err
returns-in-Err g c =
    let final = c.in-Err.failed.fault in record {
      value = subst (λ (j : JournalState). Appends c.args.lines.now c.args.durability j
          (journal_in (g.F.JournalFile.file c.put_lines.new.file) c.is_final-is_final.result)
          (Err final)) c.self.view_is
          (subst (λ (b : Bool). Appends c.args.lines.now c.args.durability
          (journal_in (g.F.JournalFile.file c.self.inside.file) c.self.inside.is_broken)
          (journal_in (g.F.JournalFile.file c.put_lines.new.file) b)
          (Err final)) (sym c.is_final-is_final.ensures.value)
          (left_as c.self.inside.is_broken final c.args.durability
          (g.F.JournalFile.file c.self.inside.file) (g.F.JournalFile.file c.put_lines.new.file) c.self.inside.len
          c.args.lines.now c.if-self.false c.self.invariant.0 c.in-Err.ensures.value).1);
    }
