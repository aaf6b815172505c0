use Rattle.mg_kept.proofs.NewerLemmas.{few_newer_stay, newer_replies_evict, last_is_newest, unnamed_stay, dropped_stay_dropped, kept_stay_distinct}
use Rattle.mg_kept.proofs.theorems.replies_stay_while_few_are_newer.Goals as goal

pub returns-clause-few : goal.returns-clause-few
returns-clause-few c = few_newer_stay

pub returns-clause-many : goal.returns-clause-many
returns-clause-many c = newer_replies_evict

pub returns-clause-last : goal.returns-clause-last
returns-clause-last c = last_is_newest

pub returns-clause-unnamed : goal.returns-clause-unnamed
returns-clause-unnamed c = unnamed_stay

pub returns-clause-gone : goal.returns-clause-gone
returns-clause-gone c = dropped_stay_dropped

pub returns-clause-distinct : goal.returns-clause-distinct
returns-clause-distinct c = kept_stay_distinct
