use Rattle.std.proofs.Common.{◌+◌, List, [], ◌∷◌, ◌++◌, subst, sym, take, ◌∙◌}
use Rattle.std.proofs.lemmas.List.{take_more}
use Rattle.mg_heard.specs.declared.asked_rule.AskedRule.{AskedRule}
use Rattle.mg_heard.specs.declared.rule.Rule.{Rule}
use Rattle.std.specs.List.{AllZip}
use Rattle.mg_heard.specs.Asked.{IsRule}
use Rattle.mg_heard.proofs.NameLemmas.{pushed, rules_more}
use Rattle.mg_heard.proofs.asked_rule.rules_of.Goals as goal

pub loop-one-preserved : goal.loop-one-preserved
loop-one-preserved c =
    let i = c.loop-one.one-index in
    let asked = c.args.asked.now in
    let names = c.args.names.now in
    let rule = c.in_ok-rule.rule in
    let old = c.loop-one.rules.items in
    let items = pushed c.push.result old c.push.new.self.items rule c.push.ensures.items
    (sym c.is_err.ensures.value ∙ c.if-is_err.false) in
    subst (λ (l : List Rule). AllZip (IsRule names) (take (i + 1) asked) l) (sym items)
    (subst (λ (l : List AskedRule). AllZip (IsRule names) l (old ++ rule ∷ []))
    (sym (take_more asked i c.one-item.result c.loop-one-test.true))
    (rules_more names (take i asked) old _ rule c.loop-one.invariant
    (subst (λ (x : AskedRule). IsRule names x rule) c.one-item.is c.in_ok-rule.ensures.value)))
