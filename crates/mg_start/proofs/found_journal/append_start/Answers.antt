use Rattle.std.proofs.Common.{◌≡◌, ℕ, List, sym, subst, ◌∙◌}
use Rattle.mg_journal.specs.Text.{EndsInLineFeed}
use Rattle.mg_start.specs.Journal.{start_lines}
use Rattle.mg_start.specs.aids.Starting.{Logs}
use Rattle.mg_start.proofs.JournalLemmas.{start_appended, start_feed}
use Rattle.mg_start.proofs.found_journal.append_start.Goals as goal

pub append-requires : goal.append-requires
append-requires g c =
    let lines : c.as_slice.result.now ≡ start_lines c.args.missed c.args.fence = c.as_slice.ensures.value ∙ c.start_lines.ensures.value in
    record { line_feed = subst EndsInLineFeed (sym lines) (start_feed c.args.missed c.args.fence) }

pub returns : goal.returns
returns g c =
    let lines : c.as_slice.result.now ≡ start_lines c.args.missed c.args.fence = c.as_slice.ensures.value ∙ c.start_lines.ensures.value in
    record {
      value = start_appended c.append.result c.args.missed c.args.fence c.as_slice.result.now
          (g.J.Journal.journal c.args.journal.now) (g.J.Journal.journal c.append.new.journal) lines c.append.ensures.value;
      logged = subst (λ (l : List ℕ). Logs (g.T.Tells.calls c.args.host.now) (g.T.Tells.calls c.append.new.host) l
          c.append.result) lines c.append.ensures.logged;
    }
