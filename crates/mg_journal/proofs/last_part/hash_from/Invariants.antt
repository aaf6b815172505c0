use Rattle.std.proofs.Common.{◌≡◌, ◌≤◌}
use Rattle.mg_journal.specs.aids.LastPart.{HoldsFrom}
use Rattle.mg_journal.proofs.last_part.hash_from.Given as goal

abbrev pub invariant-loop : goal.invariant-loop
invariant-loop g l = record {
  order : l.fn.start ≤ l.at;
  within : l.at ≤ l.fn.whole;
  same : g.F.JournalFile.file l.file ≡ g.F.JournalFile.file l.initial.file;
  holds : HoldsFrom (g.F.JournalFile.file l.initial.file) l.fn.start l.at l.chain;
}
