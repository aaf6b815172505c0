use Rattle.mg_serve.proofs.JournalCuts.{any_cut, cuts_resume}
use Rattle.mg_serve.proofs.JournalPower.{power_losses}
use Rattle.mg_serve.proofs.journal_theorems.any_cut_is_a_moment.Goals as goal

pub returns : goal.returns
returns c = record {
  cut = any_cut c.recordings_are_read.ensures.theorem;
  resumes = cuts_resume c.sessions_are_runs.ensures c.outcomes_are_unique.ensures.events c.rtp_changes_speech_only.ensures.worlds;
  power = power_losses c.recordings_are_read.ensures.theorem;
}
