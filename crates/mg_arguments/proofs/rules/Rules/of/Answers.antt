use Rattle.std.proofs.Common.{◌∙◌, Option, [], ◌∷◌, ap, arith, length, length-append, map, drop, refl, sym, ◌+◌}
use Rattle.std.specs.Prelude.{ok_or}
use Rattle.mg_heard.specs.Asked.{rule_by}
use Rattle.mg_heard.specs.declared.asked_rule.AskedRule.{AskedRule}
use Rattle.mg_arguments.specs.declared.rule_fault.RuleFault.TheVariants.{Unreadable}
use Rattle.mg_service.specs.Read.{all_read}
use Rattle.mg_service.proofs.ReadLemmas.{next_read, none_read, then_read}
use Rattle.mg_arguments.proofs.rules.Rules.of.Goals as goal

pub loop-text-init : goal.loop-text-init
loop-text-init c = rw c.new-rules.ensures (none_read _, refl)

pub loop-text-preserved : goal.loop-text-preserved
loop-text-preserved c =
    let rest = all_read (λ text. ok_or (rule_by c.args.has_names text) Unreadable)
    (map (λ t. t.now) (drop (c.loop-text.text-index + 1) c.args.texts.now)) in
    let is = sym (ap (rule_by c.args.has_names) c.as_bytes.ensures.value) ∙ (sym c.of.ensures.value ∙ c.in-Some.is) in
    let next = next_read (λ text. ok_or (rule_by c.args.has_names text) Unreadable) (λ t. t.now) c.args.texts.now
    c.loop-text.text-index _ c.in-Some.rule c.loop-text.rules.items c.loop-text-test.true
    (ap (λ (o : Option AskedRule). ok_or o Unreadable) is) in (
      ap (λ items. then_read items rest) c.push.ensures.items ∙ (sym next ∙ c.loop-text.invariant.0),
      omega (
        arith,
        ap length c.push.ensures.items,
        length-append c.loop-text.rules.items (c.in-Some.rule ∷ []),
        c.loop-text.invariant.1,
      ),
    )
