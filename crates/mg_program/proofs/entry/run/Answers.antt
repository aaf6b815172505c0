use Rattle.mg_program.proofs.entry.run.Goals as goal

pub returns-in-Serve : goal.returns-in-Serve
returns-in-Serve g c = record { runs = rw c.in-Serve.is (c.serve.ensures.value, c.serve.ensures.quiet) }
