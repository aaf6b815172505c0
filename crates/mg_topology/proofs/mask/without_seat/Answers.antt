use Rattle.std.proofs.Common.{◌≡◌, ℕ, false, ◌==◌, cond, arith}
use Rattle.std.proofs.lemmas.Bool.Decides.{nat_tests}
use Rattle.mg_topology.specs.Mask.{has_seat}
use Rattle.mg_topology.proofs.MaskLemmas.{smaller_without}
use Rattle.mg_topology.proofs.SeatsLemmas.{seats_of-rest, seat_count-fewer}
use Rattle.mg_topology.proofs.mask.without_seat.Goals as goal

taken : (c : goal.After-difference) → (s : ℕ) →
    has_seat c.difference.result s ≡ cond (s == c.args.seat) false (has_seat c.args.mask s)
taken c s = grind (arith, nat_tests, c.difference.ensures.seats s, c.of_seat.ensures s)

pub returns-clause-seats : goal.returns-clause-seats
returns-clause-seats c = taken c

pub returns-clause-smaller : goal.returns-clause-smaller
returns-clause-smaller c = λ is_in.
    smaller_without _ _ c.args.seat c.difference.ensures.no_larger is_in
    (grind (arith, nat_tests, c.difference.ensures.seats c.args.seat, c.of_seat.ensures c.args.seat))

pub returns-clause-fewer : goal.returns-clause-fewer
returns-clause-fewer c = seat_count-fewer c.args.mask c.difference.result c.args.seat (taken c) c.requires

pub returns-clause-rest : goal.returns-clause-rest
returns-clause-rest c = seats_of-rest c.args.mask c.difference.result c.args.seat (taken c)
