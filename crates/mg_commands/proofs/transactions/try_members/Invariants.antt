use Rattle.std.proofs.Common.{◌≡◌, map, drop}
use Rattle.mg_words.specs.Leads.{Leads}
use Rattle.mg_commands.specs.declared.name.Name.TheVariants.{Number}
use Rattle.mg_commands.specs.aids.ByActions.{and_then, with_names}
use Rattle.mg_commands.specs.aids.Runs.{Base, IsActionRun, action_kept}
use Rattle.mg_commands.proofs.transactions.try_members.Given as goal

abbrev pub invariant-loop-number : goal.invariant-loop-number
invariant-loop-number l = record {
  ran : (base : Base) → Leads (IsActionRun base) (action_kept l.initial.engine l.initial.progress l.initial.reply)
      (action_kept l.engine l.progress l.reply)
      (λ run now. with_names l.source l.command l.parameters (map Number l.members) run ≡
      and_then (with_names l.source l.command l.parameters (map Number (drop l.number-index l.members)))
      (now, l.were_done));
}
