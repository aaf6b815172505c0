-- The output in formats other than a page.
use Rattle.std.specs.Prelude.{◌≡◌, ℕ, Bool, true, false, List, None, Option, Some}
use Rattle.mg_dates.specs.declared.date.Date.{Date}
use Rattle.mg_heard.specs.declared.entry.Entry.{Entry}
use Rattle.mg_heard.specs.declared.extent.Extent.{Extent}
use Rattle.mg_heard.specs.declared.format.Format.{Format}
use Rattle.mg_heard.specs.declared.format.Format.TheVariants as formats
use Rattle.mg_heard.specs.declared.missing.Missing.{Missing}
use Rattle.mg_heard.specs.Came.{unless_missing}
use Rattle.mg_heard.specs.Reported.{WritesReport, WritesVerdict}
use Rattle.mg_heard.specs.Verdict.{verdict_at}
use Rattle.mg_heard.specs.declared.verdict.Verdict.TheVariants as verdicts
use Rattle.mg_options.specs.declared.status.Status.{Status}
use Rattle.mg_options.specs.declared.status.Status.TheVariants.{Done, Unknown}
use Rattle.mg_hearing.specs.declared.question.Question.{Question}
use Rattle.mg_hearing.specs.Heard.{status_for}

abbrev pub is_page : Format → Bool
is_page formats.Page = true
is_page formats.Text = false
is_page formats.Csv = false
is_page formats.Json = false

-- The output about intervals and gaps in lines.
abbrev pub PrintsLines : Question → Option Date → (old new : Option (List ℕ)) → Missing → Status → Extent
    → List Entry → Type 0
PrintsLines asked None old new missing status extent xs =
    WritesReport asked.style asked.query old new xs × (status ≡ unless_missing Unknown missing Done)
PrintsLines asked (Some time) old new missing status extent xs =
    let verdict = unless_missing verdicts.Unknown missing (verdict_at asked.query time extent xs) in
    WritesVerdict asked.style verdict old new × (status ≡ status_for verdict)
