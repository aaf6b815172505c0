use Rattle.mg_bytes.proofs.AppendedLemmas.{after}
use Rattle.mg_heard.proofs.line.push_object.Goals as goal

pub returns-clause-value : goal.returns-clause-value
returns-clause-value c =
    let last = c.push_name_members.new.out in
    rw (← c.kind.ensures.value)
    (after c.args.out.now c.push.new.self last _ _ c.push.ensures.value
    (after c.push.new.self c.push-2.new.self last _ _ c.push-2.ensures.value
    (after c.push-2.new.self c.push-3.new.self last _ _ c.push-3.ensures.value
    (after c.push-3.new.self c.push_name.new.out last _ _ c.push_name.ensures.value
    (after c.push_name.new.out c.push-4.new.self last _ _ c.push-4.ensures.value
    (after c.push-4.new.self c.push_peer_value.new.out last _ _ c.push_peer_value.ensures.value
    (after c.push_peer_value.new.out c.push-5.new.self last _ _ c.push-5.ensures.value
    (after c.push-5.new.self c.push_name-2.new.out last _ _ c.push_name-2.ensures.value
    (after c.push_name-2.new.out c.push-6.new.self last _ _ c.push-6.ensures.value
    (after c.push-6.new.self c.push_peer_value-2.new.out last _ _ c.push_peer_value-2.ensures.value
    (after c.push_peer_value-2.new.out c.push-7.new.self last _ _ c.push-7.ensures.value
    (after c.push-7.new.self c.push_context.new.out last _ _ c.push_context.ensures.value
    (after c.push_context.new.out c.push_extent_members.new.out last _ _ c.push_extent_members.ensures.value
    c.push_name_members.ensures.value)))))))))))))
