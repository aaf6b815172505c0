use Rattle.mg_engine.proofs.Common.{sym, subst, added, modified, moved, subtracted, IsConsistent, add, modify, move_to, subtract, limits_of}
use Rattle.mg_engine.proofs.OrderLemmas.{done_gives, takes_rooms, triples_rooms}
use Rattle.mg_engine.proofs.theorems.worlds_are_consistent.Goals as goal

pub returns-clause-start : goal.returns-clause-start
returns-clause-start c = λ config valid few. c.outcomes_are_consistent.ensures.start (limits_of config) valid.limits few

pub returns-clause-add : goal.returns-clause-add
returns-clause-add c = λ w next target settings r h done.
    done_gives (λ g. IsConsistent g.rooms) (added w settings) (add w.rooms target settings) next r done
    (λ z is. c.outcomes_are_consistent.ensures.add w.rooms z target settings r h is)

pub returns-clause-modify : goal.returns-clause-modify
returns-clause-modify c = λ w next target n settings r h done.
    done_gives (λ g. IsConsistent g.rooms) (modified w settings) (modify w.rooms target n settings) next r done
    (λ z is. c.outcomes_are_consistent.ensures.modify w.rooms z target n settings r h is)

pub returns-clause-move_to : goal.returns-clause-move_to
returns-clause-move_to c = λ w next target n settings r h done.
    done_gives (λ g. IsConsistent g.rooms) (moved w settings) (move_to w.rooms target n settings) next r done
    (λ z is. c.outcomes_are_consistent.ensures.move_to w.rooms z target n settings r h is)

pub returns-clause-subtract : goal.returns-clause-subtract
returns-clause-subtract c = λ w next target n r h done.
    done_gives (λ g. IsConsistent g.rooms) (subtracted w) (subtract w.rooms target n) next r done
    (λ z is. c.outcomes_are_consistent.ensures.subtract w.rooms z target n r h is)

pub returns-clause-triples : goal.returns-clause-triples
returns-clause-triples c = λ w next target triples n h done. subst IsConsistent
    (sym (triples_rooms w next target triples n done)) h

pub returns-clause-media : goal.returns-clause-media
returns-clause-media c = λ w next port source bytes result h represents. subst IsConsistent
    (sym (takes_rooms w next port source bytes result represents)) h
