use Rattle.std.proofs.Common.{◌≡◌, ◌≤◌}
use Rattle.mg_journal.specs.aids.LastPart.{IsSearched}
use Rattle.mg_journal.proofs.last_part.find_start.Given as goal

abbrev pub invariant-loop : goal.invariant-loop
invariant-loop g l = record {
  within : l.from ≤ l.fn.whole;
  same : g.F.JournalFile.file l.file ≡ g.F.JournalFile.file l.initial.file;
  searched : IsSearched (g.F.JournalFile.file l.initial.file) l.fn.whole l.from;
}
