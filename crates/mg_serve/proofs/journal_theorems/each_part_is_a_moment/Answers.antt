use Rattle.mg_serve.proofs.JournalParts.{each_part}
use Rattle.mg_serve.proofs.journal_theorems.each_part_is_a_moment.Goals as goal

pub returns : goal.returns
returns c = record { theorem = each_part c.recordings_are_read.ensures.theorem c.sessions_are_runs.ensures }
