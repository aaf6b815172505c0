use Rattle.std.specs.Prelude.{◌≡◌, false}
use Rattle.mg_joined.proofs.joined.Joined.drain.Given as goal

abbrev pub invariant-loop : goal.invariant-loop
invariant-loop g l = l.self.is_broken ≡ false
