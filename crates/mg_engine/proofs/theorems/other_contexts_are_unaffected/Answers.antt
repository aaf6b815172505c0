use Rattle.mg_engine.proofs.Common.{sound_if}
use Rattle.mg_engine.proofs.UnaffectedLemmas.{edit_alone, datagram_alone}
use Rattle.mg_engine.proofs.theorems.other_contexts_are_unaffected.Goals as goal

pub returns-clause-edits : goal.returns-clause-edits
returns-clause-edits c = λ w next edit done context h. edit_alone w next edit done context (sound_if w.rooms h)

pub returns-clause-media : goal.returns-clause-media
returns-clause-media c = datagram_alone
