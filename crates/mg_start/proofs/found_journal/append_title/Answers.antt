use Rattle.std.proofs.Common.{◌≡◌, ℕ, List, sym, subst, ◌∙◌}
use Rattle.mg_journal.specs.declared.durability.Durability.TheVariants.{Synced}
use Rattle.mg_journal.specs.Journal.{Appends}
use Rattle.mg_journal.specs.Text.{EndsInLineFeed}
use Rattle.mg_service.specs.Title.{title_line}
use Rattle.mg_start.specs.aids.Starting.{Logs}
use Rattle.mg_start.proofs.JournalLemmas.{title_feed}
use Rattle.mg_start.proofs.found_journal.append_title.Goals as goal

pub append-requires : goal.append-requires
append-requires g c =
    let line : c.as_slice.result.now ≡ title_line c.args.config.now = c.as_slice.ensures.value ∙ c.title_line_of.ensures.value in
    record { line_feed = subst EndsInLineFeed (sym line) (title_feed c.args.config.now) }

pub returns : goal.returns
returns g c =
    let line : c.as_slice.result.now ≡ title_line c.args.config.now = c.as_slice.ensures.value ∙ c.title_line_of.ensures.value in
    record {
      value = subst (λ (l : List ℕ). Appends l Synced (g.J.Journal.journal c.args.journal.now)
          (g.J.Journal.journal c.append.new.journal) c.append.result) line c.append.ensures.value;
      logged = subst (λ (l : List ℕ). Logs (g.T.Tells.calls c.args.host.now) (g.T.Tells.calls c.append.new.host) l
          c.append.result) line c.append.ensures.logged;
    }
