use Rattle.mg_heard.proofs.MomentLemmas as moments
use Rattle.mg_heard.proofs.changes.only_control_changes_flows.Goals as goal

pub returns : goal.returns
returns c = record {
  flows = moments.only_control_changes_flows c.rtp_changes_speech_only.ensures.worlds;
  terminations = moments.only_control_changes_terminations c.rtp_changes_speech_only.ensures.worlds;
}
