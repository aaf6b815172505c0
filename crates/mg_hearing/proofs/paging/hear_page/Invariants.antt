use Rattle.mg_hearing.proofs.paging.hear_page.Given as goal

abbrev pub ghosts-write_page : goal.ghosts-write_page
ghosts-write_page g a = record { text = g.R.Read.remaining a.reader.now }
