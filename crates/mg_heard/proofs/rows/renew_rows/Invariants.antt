use Rattle.mg_heard.proofs.ListenerRowLemmas.{Renews}
use Rattle.mg_heard.proofs.rows.renew_rows.Given as goal

abbrev pub invariant-loop-place : goal.invariant-loop-place
invariant-loop-place l = Renews l.fn.rows l.rows l.ended l.hearers l.now l.place l.changed
