use Rattle.std.proofs.Common.{◌≡◌, ◌+◌, length, IfSome, subst}
use Rattle.mg_journal.specs.Text.{whole_lines}
use Rattle.mg_journal.specs.aids.Opened.{OpeningState}
use Rattle.mg_journal.proofs.OpeningLemmas.{partial_of}
use Rattle.mg_journal.proofs.opening.Opening.partial.Goals as goal

pub returns : goal.returns
returns g c = record {
  value = subst (λ (o : OpeningState). IfSome o.file.bytes (λ bytes. length (whole_lines bytes) + c.saturating_sub.result ≡ length bytes))
      c.self.view_is
      (partial_of (g.F.JournalFile.file c.self.inside.file).bytes c.self.inside.extent c.saturating_sub.result
      c.self.invariant.0 c.saturating_sub.ensures);
}
