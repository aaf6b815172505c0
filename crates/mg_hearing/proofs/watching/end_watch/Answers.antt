use Rattle.std.proofs.Common.{inr, refl}
use Rattle.mg_hearing.proofs.AbsenceLemmas.{receives_nothing}
use Rattle.mg_hearing.proofs.watching.end_watch.Goals as goal

pub returns-in-Some : goal.returns-in-Some
returns-in-Some g c = record {
  value = rw c.in-Some.is (inr (refl, receives_nothing g.E.Write.contents c.args.errors.now c.args.errors.now refl));
}
