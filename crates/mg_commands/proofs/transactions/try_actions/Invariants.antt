use Rattle.std.proofs.Common.{◌≡◌, ◌⊎◌, ◌<◌, drop}
use Rattle.mg_words.specs.Leads.{Leads}
use Rattle.mg_reply.specs.aids.Whole.{IsWhole}
use Rattle.mg_commands.specs.aids.ByActions.{with_actions}
use Rattle.mg_commands.specs.aids.Runs.{Base, IsTransaction, transaction_kept}
use Rattle.mg_commands.proofs.transactions.try_actions.Given as goal

abbrev pub invariant-loop-action : goal.invariant-loop-action
invariant-loop-action l = record {
  ran : (base : Base) → Leads (IsTransaction base) (transaction_kept l.initial.engine l.initial.reply)
      (transaction_kept l.engine l.reply)
      (λ s now. with_actions l.source l.actions s ≡ with_actions l.source (drop l.action-index l.actions) now);
  whole : IsWhole l.initial.reply ⊎ (0 < l.action-index) → IsWhole l.reply;
}
