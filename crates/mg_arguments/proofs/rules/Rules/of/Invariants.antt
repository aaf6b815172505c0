use Rattle.std.proofs.Common.{◌≡◌, drop, length, map}
use Rattle.std.specs.Prelude.{ok_or}
use Rattle.mg_heard.specs.Asked.{rule_by}
use Rattle.mg_arguments.specs.declared.rule_fault.RuleFault.TheVariants.{Unreadable}
use Rattle.mg_service.specs.Read.{all_read}
use Rattle.mg_service.proofs.ReadLemmas.{then_read}
use Rattle.mg_arguments.proofs.rules.Rules.of.Given as goal

abbrev pub invariant-loop-text : goal.invariant-loop-text
invariant-loop-text l =
    (then_read l.rules.items (all_read (λ text. ok_or (rule_by l.has_names text) Unreadable)
    (map (λ t. t.now) (drop l.text-index l.texts)))
    ≡ all_read (λ text. ok_or (rule_by l.has_names text) Unreadable) (map (λ t. t.now) l.texts))
    × (length l.rules.items ≡ l.text-index)
