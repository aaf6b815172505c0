use Rattle.mg_bytes.proofs.AppendedLemmas.{after}
use Rattle.mg_heard.proofs.line.push_violation_sentence.Goals as goal

pub returns-clause-value : goal.returns-clause-value
returns-clause-value c =
    after c.args.out.now c.push_party.new.out c.push-4.new.self _ _ c.push_party.ensures.value
    (after c.push_party.new.out c.push.new.self c.push-4.new.self _ _ c.push.ensures.value
    (after c.push.new.self c.push_party-2.new.out c.push-4.new.self _ _ c.push_party-2.ensures.value
    (after c.push_party-2.new.out c.push-2.new.self c.push-4.new.self _ _ c.push-2.ensures.value
    (after c.push-2.new.self c.push_context.new.out c.push-4.new.self _ _ c.push_context.ensures.value
    (after c.push_context.new.out c.push-3.new.self c.push-4.new.self _ _ c.push-3.ensures.value
    (after c.push-3.new.self c.push_moment.new.out c.push-4.new.self _ _ c.push_moment.ensures.value
    c.push-4.ensures.value))))))
