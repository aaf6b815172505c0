use Rattle.mg_bytes.proofs.AppendedLemmas.{after}
use Rattle.mg_heard.proofs.line.push_extent_cells.Goals as goal

pub returns-clause-value : goal.returns-clause-value
returns-clause-value c =
    after c.args.out.now c.push.new.self c.push-3.new.self _ _ c.push.ensures.value
    (after c.push.new.self c.push_moment.new.out c.push-3.new.self _ _ c.push_moment.ensures.value
    (after c.push_moment.new.out c.push-2.new.self c.push-3.new.self _ _ c.push-2.ensures.value
    (after c.push-2.new.self c.push_end.new.out c.push-3.new.self _ _ c.push_end.ensures.value
    c.push-3.ensures.value)))
