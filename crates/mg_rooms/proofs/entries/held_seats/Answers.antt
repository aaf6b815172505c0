use Rattle.mg_rooms.proofs.Common.{true, false, refl}
use Rattle.std.proofs.lemmas.List.{get_or-replicate}
use Rattle.mg_words.specs.declared.limits.TheConstants.{MEMBER_LIMIT}
use Rattle.mg_rooms.proofs.entries.held_seats.Goals as goal

pub loop-entry-init : goal.loop-entry-init
loop-entry-init c = record { long = refl; held = λ seat lt. get_or-replicate MEMBER_LIMIT seat false true lt }
