use Rattle.mg_core.proofs.RetransmissionLemmas as repeats
use Rattle.mg_core.proofs.theorems.replies_persist.Goals as goal

pub returns : goal.returns
returns c =
    let stay = c.replies_stay_while_few_are_newer.ensures in
    let letters = c.kept_reply_is_found.ensures.letters in
    record {
      last = repeats.replies_persist stay.few stay.unnamed letters;
      newest = repeats.new_reply_is_newest stay.last;
      acknowledged = repeats.acknowledged_are_dropped stay.gone c.only_acknowledged_is_dropped.ensures.named;
      pushed = repeats.evicted_are_dropped stay.gone stay.many;
      gone = repeats.dropped_requests_are_rerun stay.gone letters;
      kept = repeats.replies_are_kept stay.distinct;
    }
