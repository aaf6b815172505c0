use Rattle.mg_serve.proofs.JournalCrashes.{crashes_lose_speech, renewals_follow}
use Rattle.mg_serve.proofs.journal_theorems.crashes_lose_speech_only.Goals as goal

pub returns : goal.returns
returns c = record {
  crash = crashes_lose_speech c.recordings_are_read.ensures.theorem c.sessions_are_runs.ensures
      c.outcomes_are_unique.ensures.events c.rtp_changes_speech_only.ensures.worlds;
  renewals = renewals_follow c.bases_stay_bases.ensures.theorem c.checkpoints_lose_speech_only.ensures.theorem;
}
