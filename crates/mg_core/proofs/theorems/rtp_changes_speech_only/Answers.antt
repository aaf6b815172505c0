use Rattle.mg_core.specs.ExceptReceived.{RtpChangesSpeechOnly}
use Rattle.mg_core.proofs.ApartLemmas.{same_event}
use Rattle.mg_core.proofs.ReceivedLemmas.{rtp_changes_speech_only, in_histories}
use Rattle.mg_core.proofs.theorems.rtp_changes_speech_only.Goals as goal

pub returns : goal.returns
returns c =
    let engine = c.agreement_lasts.ensures in
    let requests = c.requests_keep_agreement.ensures.theorem in
    let reads = c.one_reading.ensures.at_most_one in
    let event = same_event requests reads engine.media engine.one engine.turned engine.tick in
    let worlds : RtpChangesSpeechOnly = rtp_changes_speech_only event in
    record { worlds = worlds; histories = in_histories worlds c.bases_stay_bases.ensures.theorem }
