use Rattle.mg_heard.proofs.LawLemmas as laws
use Rattle.mg_heard.proofs.theorems.rtp_changes_no_interval.Goals as goal

pub returns : goal.returns
returns c = record { theorem = laws.rtp_changes_no_interval c.rtp_changes_speech_only.ensures.worlds }
