use Rattle.std.proofs.Common.{◌-◌, arith}
use Rattle.std.proofs.lemmas.Grind.{common_steps}
use Rattle.mg_playout.proofs.RingLemmas.{started_is_ring}
use Rattle.mg_playout.proofs.places.Places.start.Goals as goal

pub invariant_of-self : goal.invariant_of-self
invariant_of-self c =
    started_is_ring _ c.args.frame (c.len-len.result - 1)
    (omega (arith, c.len-len.ensures, c.self.invariant.at_least))
    (omega (arith, c.len-len.ensures, c.self.invariant.at_most))
    c.frames_are_whole.ensures (grind (arith, common_steps))
