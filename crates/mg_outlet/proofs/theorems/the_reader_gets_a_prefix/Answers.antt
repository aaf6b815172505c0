use Rattle.mg_outlet.proofs.StreamLemmas.{after_flush, after_write}
use Rattle.mg_outlet.proofs.theorems.the_reader_gets_a_prefix.Goals as goal

pub returns-clause-flush : goal.returns-clause-flush
returns-clause-flush g c = λ all most flushed begins. after_flush g.P.Pipe.calls all most _ _ flushed begins

pub returns-clause-write : goal.returns-clause-write
returns-clause-write g c = λ all text written ends begins. after_write g.P.Pipe.calls all text _ _ written ends begins
