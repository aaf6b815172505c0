use Rattle.mg_bytes.proofs.AppendedLemmas.{after}
use Rattle.mg_heard.proofs.line.push_gap.Goals as goal

pub returns-in-Json-clause-value : goal.returns-in-Json-clause-value
returns-in-Json-clause-value c =
    let end = c.push-in-Json-3.new.self in
    rw c.in-Json.is (after c.args.out.now c.push-in-Json.new.self end _ _ c.push-in-Json.ensures.value
    (after c.push-in-Json.new.self c.push_gap_word-in-Json.new.out end _ _ c.push_gap_word-in-Json.ensures.value
    (after c.push_gap_word-in-Json.new.out c.push-in-Json-2.new.self end _ _ c.push-in-Json-2.ensures.value
    (after c.push-in-Json-2.new.self c.push_extent_members.new.out end _ _ c.push_extent_members.ensures.value
    c.push-in-Json-3.ensures.value))))
