use Rattle.mg_outlet.proofs.StreamLemmas.{write_grows}
use Rattle.mg_outlet.proofs.theorems.a_write_appends_to_the_stream.Goals as goal

pub returns : goal.returns
returns g c = λ text written. write_grows g.P.Pipe.calls text c.args.before.now c.args.after.now written
