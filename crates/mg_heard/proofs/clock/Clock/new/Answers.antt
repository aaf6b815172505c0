use Rattle.std.proofs.Common.{refl}
use Rattle.mg_heard.proofs.TimingLemmas.{clock_start}
use Rattle.mg_heard.proofs.clock.Clock.new.Goals as goal

pub returns-clause-start : goal.returns-clause-start
returns-clause-start c = clock_start _ refl c.new.ensures.value refl
