-- The lines that remain in an iterator.
use Rattle.std.specs.Prelude.{ℕ, List}
use Rattle.mg_sdp.specs.declared.lines.Lines.{Lines}
use Rattle.mg_sdp.specs.Lines.{content_lines}

abbrev pub lines_left : Lines → List (List ℕ)
lines_left it = content_lines it.rest.now
