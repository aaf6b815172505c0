use Rattle.mg_program.proofs.serve.serve_ready.Given as goal

abbrev pub ghosts-serve_on_sockets : goal.ghosts-serve_on_sockets
ghosts-serve_on_sockets g a = record { calls = g.E.Host.Tells.calls a.host }
