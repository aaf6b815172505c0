use Rattle.std.proofs.Common.{arith, rules}
use Rattle.mg_sdp.proofs.ReadBackLemmas.{text_read}
use Rattle.mg_sdp.proofs.theorems.written_text_reads_back.Goals as goal

pub returns-clause-read : goal.returns-clause-read
returns-clause-read c = text_read c.args.chosen.now.address c.args.chosen.now.port c.args.chosen.now.law
    (search rules) (omega arith) (omega arith) (omega arith) (omega arith) (omega arith)
