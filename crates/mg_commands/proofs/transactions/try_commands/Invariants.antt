use Rattle.std.proofs.Common.{◌≡◌, drop}
use Rattle.mg_words.specs.Leads.{Leads}
use Rattle.mg_commands.specs.aids.ByActions.{with_commands}
use Rattle.mg_commands.specs.aids.Runs.{Base, IsActionRun, action_kept}
use Rattle.mg_commands.proofs.transactions.try_commands.Given as goal

abbrev pub invariant-loop-command : goal.invariant-loop-command
invariant-loop-command l = record {
  ran : (base : Base) → Leads (IsActionRun base) (action_kept l.initial.engine l.initial.progress l.initial.reply)
      (action_kept l.engine l.progress l.reply)
      (λ run now. with_commands l.source l.commands run ≡ with_commands l.source (drop l.command-index l.commands) now);
}
