use Rattle.mg_core.specs.Apart.{UnheardChangesNothing}
use Rattle.mg_core.proofs.ApartLemmas.{same_event, one_event, turn, unheard, unheard_in_histories, unheard_in_scripts}
use Rattle.mg_core.proofs.theorems.unheard_changes_nothing.Goals as goal

pub returns : goal.returns
returns c =
    let engine = c.agreement_lasts.ensures in
    let requests = c.requests_keep_agreement.ensures.theorem in
    let reads = c.one_reading.ensures.at_most_one in
    let event = same_event requests reads engine.media engine.one engine.turned engine.tick in
    let one = one_event requests reads engine.media engine.one engine.turned engine.tick in
    let turned = turn requests reads engine.media engine.one engine.turned engine.tick in
    let lists : UnheardChangesNothing = unheard event one turned c.packets_depend_on_heard.ensures.packets in
    record { lists = lists; histories = unheard_in_histories lists; scripts = unheard_in_scripts lists }
