-- The program's state in an action or a transaction, and the states in the definitions that it represents. The engine
-- represents the gateway, and the reply contains the items that were put into it.
use Rattle.std.specs.Prelude.{◌≡◌, ℕ, ◌*◌, Bool, true, false, List, Result, Ok, Err}
use Rattle.mg_words.specs.ResultSteps.{◌>>=◌}
use Rattle.mg_words.specs.declared.error_number.ErrorNumber.{ErrorNumber}
use Rattle.mg_reply.specs.declared.item.Item.{Item}
use Rattle.mg_reply.specs.declared.item.Item.TheVariants.{Fault}
use Rattle.mg_reply.specs.Reply.{Answered, after_put, after_all}
use Rattle.mg_engine.specs.Gateway.{Gateway}
use Rattle.mg_engine.specs.aids.Stands.{EngineState, StandsFor}
use Rattle.mg_engine.specs.Work.{RisesAtMost}
use Rattle.mg_text.specs.declared.command.Command.{Command}
use Rattle.mg_commands.specs.declared.command_parameters.CommandParameters.{CommandParameters}
use Rattle.mg_commands.specs.declared.progress.Progress.{Progress}
use Rattle.mg_commands.specs.aids.Steps.{all_names}
use Rattle.mg_commands.specs.aids.ByActions.{ActionState, ActionsState, with_trial}
use Rattle.mg_commands.specs.Work.{edits_reported}

-- The state before a request: the empty reply, and the engine's work counter.
pub record Base : Type 0 where
  pub reply : Answered
  pub work : ℕ

-- The work counter increased by at most four for each edit that the items report.
abbrev pub IsPaid : Base → List Item → EngineState → Type 0
IsPaid base items engine = RisesAtMost (4 * edits_reported items) base.work engine.sums.work

pub record ActionKept : Type 0 where
  pub engine : EngineState
  pub progress : Progress
  pub reply : Answered

abbrev pub action_kept : EngineState → Progress → Answered → ActionKept
action_kept engine progress reply =
    record { engine = engine; progress = progress; reply = reply }

pub record IsActionRun (base : Base) (kept : ActionKept) (run : ActionState) : Type 0 where
  pub gateway : StandsFor kept.engine run.gateway
  pub target : run.target ≡ kept.progress.target
  pub made : run.made ≡ kept.progress.made
  pub reply : kept.reply ≡ after_all base.reply run.items
  pub work : IsPaid base run.items kept.engine

-- An action after a command for all members. The command's text has already been checked.
abbrev pub with_all : List ℕ → Command → CommandParameters → ActionState → ActionState × Bool
with_all source c parameters run =
    with_trial source c run (do
      xs ← all_names run.gateway run.target c.word
      Ok (record { parameters = parameters; names = xs }))

pub record TransactionKept : Type 0 where
  pub engine : EngineState
  pub reply : Answered

abbrev pub transaction_kept : EngineState → Answered → TransactionKept
transaction_kept engine reply = record { engine = engine; reply = reply }

pub record IsTransaction (base : Base) (kept : TransactionKept) (s : ActionsState)
    : Type 0 where
  pub gateway : StandsFor kept.engine s.gateway
  pub reply : kept.reply ≡ after_all base.reply s.items
  pub work : IsPaid base s.items kept.engine

-- The outcome of an action's properties was reported, and the engine represents the gateway after this outcome.
abbrev pub ReportsProperties : EngineState → Answered → Answered → Bool → Gateway
    → Result (Gateway × List Item) ErrorNumber → Type 0
ReportsProperties kept before reported is_done w (Ok p) =
    (is_done ≡ true) × (reported ≡ after_all before p.1) × StandsFor kept p.0
ReportsProperties kept before reported is_done w (Err e) =
    (is_done ≡ false) × (reported ≡ after_put before (Fault e)) × StandsFor kept w
