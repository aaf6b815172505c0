use Rattle.mg_bytes.proofs.AppendedLemmas.{after}
use Rattle.mg_heard.proofs.line.push_gap_row.Goals as goal

pub returns-clause-value : goal.returns-clause-value
returns-clause-value c =
    let end = c.push_extent_cells.new.out in
    after c.args.out.now c.push.new.self end _ _ c.push.ensures.value
    (after c.push.new.self c.push_bar.new.out end _ _ c.push_bar.ensures.value
    (after c.push_bar.new.out c.push-2.new.self end _ _ c.push-2.ensures.value
    (after c.push-2.new.self c.push_gap_word.new.out end _ _ c.push_gap_word.ensures.value
    (after c.push_gap_word.new.out c.push-3.new.self end _ _ c.push-3.ensures.value
    c.push_extent_cells.ensures.value))))
