use Rattle.std.proofs.Common.{◌≡◌}
use Rattle.mg_journal.specs.aids.Opening.{HasFront}
use Rattle.mg_journal.proofs.opening.measure.Given as goal

abbrev pub invariant-loop : goal.invariant-loop
invariant-loop g l = record {
  same : g.F.JournalFile.file l.file ≡ g.F.JournalFile.file l.initial.file;
  front : HasFront (g.F.JournalFile.file l.initial.file) l.extent;
}
