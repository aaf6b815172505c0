use Rattle.std.proofs.Common.{◌≡◌, ℕ, List, ◌++◌, ap, subst, sym, ◌∙◌}
use Rattle.mg_checkpoint.specs.Checkpoint.{checkpoint_text}
use Rattle.mg_journal.specs.Text.{EndsInLineFeed}
use Rattle.mg_serve.specs.Renewal.{renewal_text}
use Rattle.mg_serve.proofs.Renewing.{renewal_feed}
use Rattle.mg_serve.proofs.renewal.renewal_text.Goals as goal

pub returns-clause-value : goal.returns-clause-value
returns-clause-value c w stands =
    let saved : c.save.new.out.items ≡ checkpoint_text w =
    c.in-Ok.ensures.written w stands ∙ ap (λ (l : List ℕ). l ++ checkpoint_text w) c.new-checkpoint.ensures.items in
    let (base, is, same, text) = c.is_restorable.ensures.base c.if-not-is_restorable.false in (
      (base, is, same, text ∙ (c.as_slice.ensures.value ∙ saved)),
      c.ranges.reached.fits,
      c.in-Ok-text_with.ensures.value
          ∙ ap (λ (l : List ℕ). renewal_text c.args.setup.now.head l c.args.reached) (c.as_slice-2.ensures.value ∙ saved),
    )

pub returns-clause-line_feed : goal.returns-clause-line_feed
returns-clause-line_feed c =
    subst EndsInLineFeed (sym c.in-Ok-text_with.ensures.value)
    (renewal_feed c.args.setup.now.head c.as_slice-2.result.now c.args.reached)
