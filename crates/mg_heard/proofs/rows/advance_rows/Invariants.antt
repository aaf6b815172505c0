use Rattle.mg_heard.proofs.ListenerRowLemmas.{Advances}
use Rattle.mg_heard.proofs.rows.advance_rows.Given as goal

abbrev pub invariant-loop-place : goal.invariant-loop-place
invariant-loop-place l = Advances l.fn.old l.old l.rows l.hearers l.now l.place
