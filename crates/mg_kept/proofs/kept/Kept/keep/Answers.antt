use Rattle.std.proofs.Common.{◌∙◌}
use Rattle.mg_kept.proofs.PlaceLemmas.{one_more}
use Rattle.mg_kept.proofs.kept.Kept.keep.Goals as goal

pub invariant_of-self : goal.invariant_of-self
invariant_of-self c = rw c.set.ensures.value
    (one_more c.self.inside.places.items c.self.inside.len _ c.args.self.now _ c.self.invariant
    (c.self.view_is ∙ c.make_room.ensures.value) (rw c.self.view_is c.make_room.ensures.room) c.requires.is_new)
