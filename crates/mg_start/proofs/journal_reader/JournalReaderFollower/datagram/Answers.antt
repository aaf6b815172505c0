use Rattle.std.proofs.Common.{[], ◌∷◌, ◌++◌}
use Rattle.mg_core.specs.Note.{Happened}
use Rattle.mg_start.proofs.ReaderLemmas.{both_follow}
use Rattle.mg_start.proofs.journal_reader.JournalReaderFollower.datagram.Goals as goal

pub returns-clause-value : goal.returns-clause-value
returns-clause-value c start base notes h run =
    both_follow c.datagram-2.result c.datagram.new.self (notes ++ Happened c.args.event.now ∷ []) c.datagram-2.new.self.reached
    (c.in_ok-datagram.ensures.value start.timeline base notes h.0 run)
    (c.datagram-2.ensures.value start.fence base notes h.1 run)
