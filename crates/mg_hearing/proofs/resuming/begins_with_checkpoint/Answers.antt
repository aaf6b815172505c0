use Rattle.mg_hearing.proofs.ResumeLemmas.{begins}
use Rattle.mg_hearing.proofs.resuming.begins_with_checkpoint.Goals as goal

pub returns-clause-begins : goal.returns-clause-begins
returns-clause-begins g c = λ yes. begins (g.R.Read.remaining c.look_for_checkpoint.new.reader) c.seen.result.now
    c.seen.ensures.next (c.is_title_and_words.ensures.value yes)
