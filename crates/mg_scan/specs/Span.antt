-- A part of a source.
use Rattle.std.specs.Prelude.{ℕ, List}
use Rattle.std.specs.List.{slice_range}
use Rattle.mg_scan.specs.declared.span.Span.{Span}

-- The text of a span: the bytes of the source from its start up to its end.
abbrev pub text_of : List ℕ → Span → List ℕ
text_of source span = slice_range source span.start span.end
