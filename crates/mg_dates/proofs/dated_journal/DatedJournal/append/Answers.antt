use Rattle.std.proofs.Common.{refl, subst}
use Rattle.mg_journal.specs.Journal.{JournalState}
use Rattle.mg_ports.specs.Journaled.{AppendsDated}
use Rattle.mg_dates.proofs.DateLemmas.{dates}
use Rattle.mg_dates.proofs.dated_journal.DatedJournal.append.Goals as goal

pub returns-then-is_ok : goal.returns-then-is_ok
returns-then-is_ok g c = record {
  value = subst (λ (j : JournalState). AppendsDated c.args.lines.now c.args.durability j
      (g.J.Journal.journal c.append-result.new.self) c.append-result.result) c.self.view_is
      (dates c.start_text.new.text.text c.in-Some-of.text c.args.lines.now c.as_slice-2.result.now c.args.durability
      (g.J.Journal.journal c.self.inside.journal) (g.J.Journal.journal c.append-result.new.self) c.append-result.result
      c.start_text.ensures.seal c.as_slice.ensures.short
      (rw (
        c.as_slice-2.ensures.value,
        c.push-4.ensures.value,
        c.push-3.ensures.value,
        c.push-2.ensures.value,
        c.as_slice.ensures.value,
        c.push.ensures.value,
      ) refl) c.append-result.ensures.value);
}

pub returns-else-is_ok : goal.returns-else-is_ok
returns-else-is_ok g c = record {
  value = subst (λ (j : JournalState). AppendsDated c.args.lines.now c.args.durability j
      (g.J.Journal.journal c.append-result.new.self) c.append-result.result) c.self.view_is
      (dates c.start_text.new.text.text c.in-Some-of.text c.args.lines.now c.as_slice-2.result.now c.args.durability
      (g.J.Journal.journal c.self.inside.journal) (g.J.Journal.journal c.append-result.new.self) c.append-result.result
      c.start_text.ensures.seal c.as_slice.ensures.short
      (rw (
        c.as_slice-2.ensures.value,
        c.push-4.ensures.value,
        c.push-3.ensures.value,
        c.push-2.ensures.value,
        c.as_slice.ensures.value,
        c.push.ensures.value,
      ) refl) c.append-result.ensures.value);
}
