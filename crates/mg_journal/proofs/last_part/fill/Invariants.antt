use Rattle.std.proofs.Common.{◌≡◌, ◌≤◌, length, take}
use Rattle.mg_journal.specs.aids.LastPart.{HasBytes}
use Rattle.mg_journal.proofs.last_part.fill.Given as goal

abbrev pub invariant-loop : goal.invariant-loop
invariant-loop g l = record {
  within : l.filled ≤ length l.buffer;
  same : g.F.JournalFile.file l.file ≡ g.F.JournalFile.file l.initial.file;
  filled : HasBytes (g.F.JournalFile.file l.initial.file) l.fn.at (take l.filled l.buffer);
}
