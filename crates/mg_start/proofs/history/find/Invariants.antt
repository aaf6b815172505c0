use Rattle.mg_start.proofs.history.find.Given as goal

abbrev pub ghosts-check_seals : goal.ghosts-check_seals
ghosts-check_seals g a = record { file = a.opening.file }

abbrev pub ghosts-run : goal.ghosts-run
ghosts-run g a = record { file = a.opening.file }
