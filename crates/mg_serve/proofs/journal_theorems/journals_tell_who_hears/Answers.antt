use Rattle.mg_serve.proofs.JournalFlows.{tells_who_hears}
use Rattle.mg_serve.proofs.journal_theorems.journals_tell_who_hears.Goals as goal

pub returns : goal.returns
returns c = record {
  theorem = tells_who_hears c.sessions_are_runs.ensures c.outcomes_are_unique.ensures.events
      c.rtp_changes_speech_only.ensures.worlds;
}
