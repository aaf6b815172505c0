use Rattle.mg_core.proofs.ApartLemmas.{same_event}
use Rattle.mg_core.proofs.ConsistentLemmas.{step_keeps}
use Rattle.mg_core.proofs.JournalLemmas.{agreement_has_same_flows, agreement_has_same_reports}
use Rattle.mg_core.proofs.theorems.rtp_changes_no_flow.Goals as goal

pub returns : goal.returns
returns c =
    let engine = c.agreement_lasts.ensures in
    let consistent = c.worlds_are_consistent.ensures in
    let event = same_event c.requests_keep_agreement.ensures.theorem c.one_reading.ensures.at_most_one engine.media
    engine.one engine.turned engine.tick in
    let keeps = step_keeps c.requests_are_consistent.ensures.theorem consistent.media in
    record {
      flows = agreement_has_same_flows;
      reports = agreement_has_same_reports event keeps;
    }
