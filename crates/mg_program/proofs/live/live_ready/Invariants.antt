use Rattle.mg_program.proofs.live.live_ready.Given as goal

abbrev pub ghosts-live_on_sockets : goal.ghosts-live_on_sockets
ghosts-live_on_sockets g a = record { calls = g.E.Host.Tells.calls a.host }
