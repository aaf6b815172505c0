use Rattle.std.proofs.Common.{[], ◌∷◌, ◌++◌}
use Rattle.mg_core.specs.Note.{Comment}
use Rattle.mg_start.proofs.ReaderLemmas.{both_follow}
use Rattle.mg_start.proofs.journal_reader.JournalReaderFollower.comment.Goals as goal

pub returns-clause-value : goal.returns-clause-value
returns-clause-value c start base notes h =
    both_follow c.comment-2.result c.comment.new.self (notes ++ Comment c.args.line.now ∷ []) c.comment-2.new.self.reached
    (c.in_ok-comment.ensures.value start.timeline base notes h.0)
    (c.comment-2.ensures.value start.fence base notes h.1)
