use Rattle.mg_bytes.proofs.AppendedLemmas.{after}
use Rattle.mg_heard.proofs.line.push_table_row.Goals as goal

pub returns-clause-value : goal.returns-clause-value
returns-clause-value c =
    after c.args.out.now c.push.new.self c.push_extent_cells.new.out _ _ c.push.ensures.value
    (after c.push.new.self c.push_bar.new.out c.push_extent_cells.new.out _ _ c.push_bar.ensures.value
    (after c.push_bar.new.out c.push-2.new.self c.push_extent_cells.new.out _ _ c.push-2.ensures.value
    (after c.push-2.new.self c.push_shown_party.new.out c.push_extent_cells.new.out _ _ c.push_shown_party.ensures.value
    (after c.push_shown_party.new.out c.push-3.new.self c.push_extent_cells.new.out _ _ c.push-3.ensures.value
    (after c.push-3.new.self c.push_shown_party-2.new.out c.push_extent_cells.new.out _ _ c.push_shown_party-2.ensures.value
    (after c.push_shown_party-2.new.out c.push-4.new.self c.push_extent_cells.new.out _ _ c.push-4.ensures.value
    (after c.push-4.new.self c.push_context.new.out c.push_extent_cells.new.out _ _ c.push_context.ensures.value
    (after c.push_context.new.out c.push-5.new.self c.push_extent_cells.new.out _ _ c.push-5.ensures.value
    c.push_extent_cells.ensures.value))))))))
