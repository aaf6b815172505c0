use Rattle.std.proofs.Common.{◌≡◌, ◌≤◌, length, take}
use Rattle.mg_journal.specs.JournalFile.{grown}
use Rattle.mg_journal.proofs.writing.write_whole.Given as goal

abbrev pub invariant-loop : goal.invariant-loop
invariant-loop g l = record {
  within : l.at ≤ length l.text;
  written : g.F.JournalFile.file l.file ≡ grown (g.F.JournalFile.file l.initial.file) (take l.at l.text);
}
