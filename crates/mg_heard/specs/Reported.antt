-- The output of reports and answers.
use Rattle.std.specs.Prelude.{ℕ, List, ◌++◌, filter, Option}
use Rattle.std.specs.Io.KnownBytes.{Appends}
use Rattle.mg_heard.specs.declared.entry.Entry.{Entry}
use Rattle.mg_heard.specs.declared.query.Query.{Query}
use Rattle.mg_heard.specs.declared.style.Style.{Style}
use Rattle.mg_heard.specs.declared.verdict.Verdict.{Verdict}
use Rattle.mg_heard.specs.Lines.{AreLines, IsVerdictLine, head_of}
use Rattle.mg_heard.specs.Query.{selects_entry}

-- A writer has received a whole report about these entries: the names of the columns, if the format has any, and a line
-- for each entry that the query selects.
abbrev pub WritesReport : Style → Query → (old new : Option (List ℕ)) → List Entry → Type 0
WritesReport style query old new xs =
    (text : List ℕ) × AreLines style (filter (selects_entry query) xs) text
    × Appends old new (head_of style.format ++ text)

-- A writer has received the line of an answer about a given time.
abbrev pub WritesVerdict : Style → Verdict → (old new : Option (List ℕ)) → Type 0
WritesVerdict style verdict old new =
    (line : List ℕ) × IsVerdictLine style verdict line × Appends old new line
