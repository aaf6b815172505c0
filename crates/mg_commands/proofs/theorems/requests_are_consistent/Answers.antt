use Rattle.mg_rooms.specs.Consistent.{IsConsistent}
use Rattle.mg_engine.specs.Gateway.{Gateway}
use Rattle.mg_commands.proofs.KeepLemmas.{request_keeps}
use Rattle.mg_commands.proofs.theorems.requests_are_consistent.Goals as goal

pub returns : goal.returns
returns c =
    let keeps = c.worlds_are_consistent.ensures in
    record {
      theorem = request_keeps (λ (w : Gateway). IsConsistent w.rooms) keeps.add keeps.modify keeps.move_to
          keeps.subtract keeps.triples;
    }
