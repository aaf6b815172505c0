-- The output of a report so far.
use Rattle.std.specs.Prelude.{◌≡◌, ℕ, List, filter, Option}
use Rattle.std.specs.Io.KnownBytes.{Appends}
use Rattle.mg_heard.specs.declared.entry.Entry.{Entry}
use Rattle.mg_heard.specs.declared.query.Query.{Query}
use Rattle.mg_heard.specs.declared.style.Style.{Style}
use Rattle.mg_heard.specs.Lines.{AreLines}
use Rattle.mg_heard.specs.Query.{selects_entry}

-- A writer has received a line for each entry that the query selects.
abbrev pub WritesLines : Style → Query → (old new : Option (List ℕ)) → List Entry → Type 0
WritesLines style query old new xs =
    (text : List ℕ) × AreLines style (filter (selects_entry query) xs) text
    × Appends old new text

-- The state of a report as its caller sees it.
pub record Reported : Type 0 where
  pub style : Style
  pub query : Query
  pub written : Option (List ℕ)

-- A line has been written for each of these entries that the query selects.
pub record HasReported (start now : Reported) (xs : List Entry) : Type 0 where
  pub style : now.style ≡ start.style
  pub query : now.query ≡ start.query
  pub lines : WritesLines start.style start.query start.written now.written xs
