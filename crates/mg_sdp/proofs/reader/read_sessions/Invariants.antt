use Rattle.std.proofs.Common.{◌≡◌}
use Rattle.mg_sdp.specs.Lines.{content_lines}
use Rattle.mg_sdp.specs.aids.LinesLeft.{lines_left}
use Rattle.mg_sdp.specs.aids.Reader.{progress_at_start}
use Rattle.mg_sdp.proofs.ReaderLemmas.{read_on}
use Rattle.mg_sdp.proofs.reader.read_sessions.Given as goal

-- Reading the remaining lines yields the result of reading all lines from the start.
abbrev pub invariant-loop-line : goal.invariant-loop-line
invariant-loop-line l = read_on l.reader (lines_left l.line-iterator)
    ≡ read_on progress_at_start (content_lines l.content)
