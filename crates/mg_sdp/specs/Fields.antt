-- The fields of a line's value (RFC 4566, sections 5.7 and 5.14, in which a single space separates
-- fields).
use Rattle.std.specs.Prelude.{ℕ, List, filter}
use Rattle.std.specs.List.{slice_split}
use Rattle.mg_sdp.specs.Lines.{is_space_or_tab, is_filled}

-- The nonempty parts of a value between its spaces and tabs.
unfoldable pub fields_of : List ℕ → List (List ℕ)
fields_of value = filter is_filled (slice_split is_space_or_tab value)
