use Rattle.mg_core.proofs.QuietLemmas.{only_changes_are_reported}
use Rattle.mg_core.proofs.ReportedListenerLemmas.{report_determines_outcome}
use Rattle.mg_core.proofs.theorems.changes_are_reported.Goals as goal

pub returns : goal.returns
returns c = record { complete = report_determines_outcome; exact = only_changes_are_reported }
