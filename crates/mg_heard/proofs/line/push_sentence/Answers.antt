use Rattle.mg_bytes.proofs.AppendedLemmas.{after}
use Rattle.mg_heard.proofs.line.push_sentence.Goals as goal

pub returns-clause-value : goal.returns-clause-value
returns-clause-value c =
    let last = c.push_extent.new.out in
    rw (← c.verb.ensures.value)
    (after c.args.out.now c.push_party.new.out last _ _ c.push_party.ensures.value
    (after c.push_party.new.out c.push.new.self last _ _ c.push.ensures.value
    (after c.push.new.self c.push_party-2.new.out last _ _ c.push_party-2.ensures.value
    (after c.push_party-2.new.out c.push-2.new.self last _ _ c.push-2.ensures.value
    (after c.push-2.new.self c.push_context.new.out last _ _ c.push_context.ensures.value
    c.push_extent.ensures.value)))))
