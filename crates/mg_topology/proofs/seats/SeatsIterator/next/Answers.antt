use Rattle.std.proofs.Common.{◌≡◌, [], sym, ◌∙◌}
use Rattle.mg_topology.proofs.SeatsLemmas.{seats_of-empty}
use Rattle.mg_topology.proofs.seats.SeatsIterator.next.Goals as goal

-- The iterator has no seats left.
pub returns-in_err-seat-clause-steps : goal.returns-in_err-seat-clause-steps
returns-in_err-seat-clause-steps c =
    let nothing : c.args.self.now ≡ [] = sym c.self.view_is ∙
    seats_of-empty c.self.inside.left c.in_err-seat.ensures.none in
    rw c.from_residual.ensures (nothing, nothing)
