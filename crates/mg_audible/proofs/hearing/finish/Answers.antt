use Rattle.mg_audible.proofs.hearing.finish.Goals as goal

pub returns-in-Ok : goal.returns-in-Ok
returns-in-Ok g c = record { value = λ start base notes valid h. c.in-Ok.ensures.value start base notes valid h }
