use Rattle.mg_core.proofs.ReadingLemmas.{some_reading}
use Rattle.mg_core.proofs.theorems.readings_exist.Goals as goal

pub returns : goal.returns
returns c =
    let (reading, is) = c.one_reading.ensures.some in
    record { theorem = some_reading c.args.bytes.now reading is }
