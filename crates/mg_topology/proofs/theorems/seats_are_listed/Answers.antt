use Rattle.mg_topology.proofs.SeatsLemmas.{seats_of-contains, seats_of-rising, seat_count-at_most, seats_of-empty, seats_of-listed}
use Rattle.mg_topology.proofs.theorems.seats_are_listed.Goals as goal

pub returns-clause-seats : goal.returns-clause-seats
returns-clause-seats c = seats_of-contains

pub returns-clause-rising : goal.returns-clause-rising
returns-clause-rising c = seats_of-rising

pub returns-clause-count : goal.returns-clause-count
returns-clause-count c = seat_count-at_most

pub returns-clause-empty : goal.returns-clause-empty
returns-clause-empty c = seats_of-empty

pub returns-clause-test : goal.returns-clause-test
returns-clause-test c = seats_of-listed
