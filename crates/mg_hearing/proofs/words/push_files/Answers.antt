use Rattle.std.proofs.Common.{List, ◌++◌, codes, ℕ}
use Rattle.mg_hearing.specs.Page.{quoted}
use Rattle.mg_hearing.proofs.PageLemmas.{piece_more}
use Rattle.mg_hearing.proofs.words.push_files.Goals as goal

pub loop-file-preserved : goal.loop-file-preserved
loop-file-preserved c =
    rw (c.in_ok-push_file.ensures.value, c.file-item.is)
    (piece_more (λ (file : List ℕ). codes " " ++ quoted file) c.args.files.now c.loop-file.file-index _
    c.loop-file.words.items _ c.loop-file-test.true c.loop-file.invariant)
