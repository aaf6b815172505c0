-- The beginning of a gateway's journal.
use Rattle.std.proofs.Common.{◌≡◌, ℕ, Bool, true, false, List, [], ◌++◌, Option, Some, None, Result, Ok, Err, OnOk, is_err, is_none, sym, ap, ◌∙◌}
use Rattle.std.specs.Io.KnownBytes.{append_known}
use Rattle.mg_dates.specs.declared.timeline.Timeline.{Timeline}
use Rattle.mg_engine.specs.declared.config.Config.{Config}
use Rattle.mg_journal.specs.declared.append_fault.AppendFault.{AppendFault}
use Rattle.mg_journal.specs.declared.durability.Durability.TheVariants.{Written, Synced}
use Rattle.mg_journal.specs.Journal.{JournalState, appended}
use Rattle.mg_host.specs.declared.host_call.HostCall.{HostCall}
use Rattle.mg_service.specs.Title.{title_line}
use Rattle.mg_start.specs.Journal.{start_lines}
use Rattle.mg_start.specs.aids.Starting.{HasBegun, HasWritten, title_before}
use Rattle.mg_start.proofs.JournalLemmas.{begins, known_none}

pub was_done : (result : Result (Unit {0}) AppendFault) (P : Type 0) → is_err result ≡ false → OnOk result P → P
was_done (Ok done) P ok holds = holds
was_done (Err fault) P ok holds = absurd cc

pub has_begun : (timeline : Option Timeline) (is_new : Bool) (config : Config) (missed : ℕ) (fence : Option ℕ)
    (found : Option (List ℕ)) (first last : JournalState) (a b : Option (List HostCall)) → is_new ≡ is_none timeline → first.is_broken ≡ false
    → first.text ≡ found
    → (is_new ≡ true → last ≡ appended (start_lines missed fence) Written (appended (title_line config) Synced first))
    → (is_new ≡ true → HasWritten a b (title_line config ++ start_lines missed fence))
    → (is_new ≡ false → last ≡ appended (start_lines missed fence) Written first)
    → (is_new ≡ false → HasWritten a b (start_lines missed fence))
    → HasBegun (title_before timeline config) missed fence found last × HasWritten a b (title_before timeline config ++ start_lines missed fence)
has_begun None is_new config missed fence found first last a b is works text new new_logged old old_logged = (
  begins (title_line config) missed fence found (appended (title_line config) Synced first) last works
      (ap (λ (t : Option (List ℕ)). append_known t (title_line config)) text) (new is),
  new_logged is,
)
has_begun (Some timeline) is_new config missed fence found first last a b is works text new new_logged old old_logged =
    (begins [] missed fence found first last works (text ∙ sym (known_none found)) (old is), old_logged is)
