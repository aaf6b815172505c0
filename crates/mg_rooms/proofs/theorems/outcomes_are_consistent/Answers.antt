use Rattle.mg_rooms.proofs.OutcomeLemmas.{add_done, modify_done, move_done, subtract_done}
use Rattle.mg_rooms.proofs.ConsistentLemmas.{start_sound, add_sound, modify_sound, move_sound, subtract_sound}
use Rattle.mg_rooms.proofs.theorems.outcomes_are_consistent.Goals as goal

pub returns-clause-start : goal.returns-clause-start
returns-clause-start c = λ limits valid few. start_sound limits few valid

pub returns-clause-add : goal.returns-clause-add
returns-clause-add c = λ w next target settings r h done. add_sound w next target r h
    (add_done w next target settings r done)

pub returns-clause-modify : goal.returns-clause-modify
returns-clause-modify c = λ w next target n settings r h done. modify_sound w next n r h
    (modify_done w next target n settings r done)

pub returns-clause-move_to : goal.returns-clause-move_to
returns-clause-move_to c = λ w next target n settings r h done. move_sound w next target n r h
    (move_done w next target n settings r done)

pub returns-clause-subtract : goal.returns-clause-subtract
returns-clause-subtract c = λ w next target n r h done. subtract_sound w next n r h
    (subtract_done w next target n r done)
