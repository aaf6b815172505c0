use Rattle.mg_pacer.proofs.RunLemmas.{SoFar}
use Rattle.mg_pacer.proofs.pacer.pace.Given as goal

abbrev pub invariant-loop-turn : goal.invariant-loop-turn
invariant-loop-turn g l = SoFar l.initial.options l._turn (g.K.Watch.readings l.initial.watch)
    (g.K.Watch.readings l.watch) (g.K.Watch.waits l.initial.watch)
    (g.K.Watch.waits l.watch) (g.W.Write.contents l.initial.output) (g.W.Write.contents l.output) l.initial.errors
    l.errors l.schedule
