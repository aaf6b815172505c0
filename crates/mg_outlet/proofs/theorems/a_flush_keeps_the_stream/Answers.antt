use Rattle.mg_outlet.proofs.StreamLemmas.{flush_keeps}
use Rattle.mg_outlet.proofs.theorems.a_flush_keeps_the_stream.Goals as goal

pub returns : goal.returns
returns g c = λ most flushed. flush_keeps g.P.Pipe.calls most c.args.before.now c.args.after.now flushed
