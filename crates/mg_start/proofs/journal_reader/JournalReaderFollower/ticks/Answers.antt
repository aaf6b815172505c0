use Rattle.std.proofs.Common.{◌++◌}
use Rattle.mg_core.specs.Follow.{ticks_of}
use Rattle.mg_start.proofs.ReaderLemmas.{both_follow}
use Rattle.mg_start.proofs.journal_reader.JournalReaderFollower.ticks.Goals as goal

pub returns-clause-value : goal.returns-clause-value
returns-clause-value c start base notes h run =
    both_follow c.ticks-2.result c.ticks.new.self (notes ++ ticks_of c.args.count) c.ticks-2.new.self.reached
    (c.in_ok-ticks.ensures.value start.timeline base notes h.0 run)
    (c.ticks-2.ensures.value start.fence base notes h.1 run)
