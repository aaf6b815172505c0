use Rattle.std.specs.Prelude.{map}
use Rattle.std.specs.Io.Buffered.{reader_remaining}
use Rattle.mg_joined.specs.aids.Joining.{all_known}
use Rattle.mg_hearing.proofs.audibility.audible_files.Given as goal

abbrev pub ghosts-audible_joined : goal.ghosts-audible_joined
ghosts-audible_joined g a = record { texts = all_known (map (reader_remaining g.H.Text.Read.remaining) a.opened.items) }
