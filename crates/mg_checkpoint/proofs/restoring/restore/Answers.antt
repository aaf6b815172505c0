use Rattle.std.proofs.Common.{◌++◌, sym, ap, ◌∙◌}
use Rattle.mg_checkpoint.specs.Checkpoint.{checkpoint_text}
use Rattle.mg_checkpoint.proofs.RestoringLemmas.{restored_by_text}
use Rattle.mg_checkpoint.proofs.restoring.restore.Goals as goal

pub returns : goal.returns
returns c =
    let both = restored_by_text c.args.config c.in_ok-state.state c.in_ok-core.core.state c.args.text.now
    c.save.new.out.items
    c.assert_represents.ensures.base c.assert_represents.ensures.restored c.in_ok-core.ensures.state
    (λ w stands. c.in_ok-save.ensures.written w stands ∙ ap (λ o. o ++ checkpoint_text w) c.new-saved.ensures.items)
    (sym c.as_slice.ensures.value ∙ c.in_ok-compare.ensures.same) in
    record { restored = both.0; base = both.1; nothing = c.in_ok-core.ensures.nothing }
