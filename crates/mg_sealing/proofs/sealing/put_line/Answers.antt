use Rattle.mg_sealing.proofs.SealedLemmas.{sealed_hash}
use Rattle.mg_sealing.proofs.sealing.put_line.Goals as goal

pub returns-clause-hash : goal.returns-clause-hash
returns-clause-hash g c = λ printed whole holds.
    sealed_hash c.put.result c.args.ticks printed c.args.line.now c.put_seal_before.new.chain c.put.new.chain whole
    (c.in_ok-put_seal_before.ensures.hash printed whole holds) c.put.ensures.hash
