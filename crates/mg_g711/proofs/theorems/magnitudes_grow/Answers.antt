use Rattle.mg_g711.specs.Law.{magnitude_of}
use Rattle.mg_g711.proofs.Growing.{grows_strictly}
use Rattle.mg_g711.proofs.Levels.{magnitude_of_grows}
use Rattle.mg_g711.proofs.theorems.magnitudes_grow.Goals as goal

pub returns-clause-grow : goal.returns-clause-grow
returns-clause-grow c = λ less small. grows_strictly 127 (magnitude_of c.args.law) (magnitude_of_grows c.args.law)
    c.args.lower c.args.upper less small
