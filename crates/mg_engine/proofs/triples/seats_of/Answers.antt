use Rattle.mg_engine.proofs.Common.{refl}
use Rattle.mg_engine.proofs.TripleLemmas.{matches_every}
use Rattle.mg_engine.proofs.triples.seats_of.Goals as goal

pub returns-in-Every-clause-some : goal.returns-in-Every-clause-some
returns-in-Every-clause-some c =
    rw c.in-Every.is (
      refl,
      matches_every c.args.rooms.now c.args.at.context c.args.at.room c.held.result c.args.flows.now c.requires.sound
          c.requires.room c.requires.members c.held.ensures.kept,
    )
