use Rattle.mg_topology.proofs.SeatsLemmas.{seats_of-each, seat_count-at_most}
use Rattle.mg_topology.proofs.mask.seats.Goals as goal

pub returns-clause-each : goal.returns-clause-each
returns-clause-each c = rw c.new.ensures (seats_of-each c.args.mask)

pub returns-clause-at_most : goal.returns-clause-at_most
returns-clause-at_most c = rw c.new.ensures (seat_count-at_most c.args.mask)
