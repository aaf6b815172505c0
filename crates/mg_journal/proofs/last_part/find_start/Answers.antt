use Rattle.std.proofs.Common.{refl, arith}
use Rattle.mg_journal.proofs.LastPartLemmas.{searched_end}
use Rattle.mg_journal.proofs.last_part.find_start.Goals as goal

pub loop-init : goal.loop-init
loop-init g c = record {
  within = omega arith;
  same = refl;
  searched = searched_end (g.F.JournalFile.file c.args.file.now) c.args.whole;
}
