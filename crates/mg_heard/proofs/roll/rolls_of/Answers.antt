use Rattle.std.proofs.Common.{◌+◌, List, [], ◌∷◌, ◌++◌, subst, sym, take}
use Rattle.std.proofs.lemmas.List.{take_more}
use Rattle.mg_heard.specs.aids.Calling.{AreFor, IsNew}
use Rattle.mg_heard.specs.declared.roll.Roll.{Roll}
use Rattle.mg_heard.specs.declared.rule.Rule.{Rule}
use Rattle.mg_heard.proofs.CallingLemmas.{for_more}
use Rattle.mg_heard.proofs.roll.rolls_of.Goals as goal

pub loop-rule-preserved : goal.loop-rule-preserved
loop-rule-preserved c =
    let i = c.loop-rule.rule-index in
    let rules = c.args.rules.now in
    let roll = c.in_ok-roll.roll in
    let old = c.loop-rule.rolls.items in
    subst (λ (l : List Roll). AreFor (take (i + 1) rules) l) (sym c.in_ok-push.ensures.items)
    (subst (λ (l : List Rule). AreFor l (old ++ roll ∷ [])) (sym (take_more rules i c.rule-item.result c.loop-rule-test.true))
    (for_more (take i rules) old _ roll c.loop-rule.invariant
    (subst (λ (x : Rule). IsNew x.talker x.listener roll) c.rule-item.is c.in_ok-roll.ensures.value)))
