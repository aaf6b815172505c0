use Rattle.std.proofs.Common.{ap, ◌∙◌}
use Rattle.mg_bytes.specs.Bytes.{appended}
use Rattle.mg_bytes.proofs.AppendedLemmas.{after}
use Rattle.mg_heard.specs.aids.Shapes.{name_member}
use Rattle.mg_heard.proofs.line.push_name_members.Goals as goal

pub returns-clause-value : goal.returns-clause-value
returns-clause-value c =
    after c.args.out.now c.push.new.self c.push-3.new.self _ _ c.push.ensures.value
    (after c.push.new.self c.push_name_value.new.out c.push-3.new.self _ _ (c.push_name_value.ensures.value
    ∙ ap (λ t. appended c.push.new.self (name_member t)) c.name_of.ensures.value)
    (after c.push_name_value.new.out c.push-2.new.self c.push-3.new.self _ _ c.push-2.ensures.value
    (after c.push-2.new.self c.push_name_value-2.new.out c.push-3.new.self _ _ (c.push_name_value-2.ensures.value
    ∙ ap (λ t. appended c.push-2.new.self (name_member t)) c.name_of-2.ensures.value)
    c.push-3.ensures.value)))
