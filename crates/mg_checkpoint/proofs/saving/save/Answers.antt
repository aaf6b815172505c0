use Rattle.std.proofs.Common.{◌++◌, sym, ap, subst, ◌∙◌, append_assoc}
use Rattle.std.proofs.lemmas.Result.{IfOk-weaker}
use Rattle.mg_core.specs.aids.Stands.{StandsFor}
use Rattle.mg_checkpoint.specs.Said.{said_of}
use Rattle.mg_checkpoint.specs.aids.Text.{body_of, closing_line, last_line}
use Rattle.mg_checkpoint.proofs.SavingLemmas.{last_lines}
use Rattle.mg_checkpoint.proofs.saving.save.Goals as goal

pub returns : goal.returns
returns c = record {
  written = IfOk-weaker c.put_closing_line.result _ _ (λ _ last w stands.
      let old = c.args.out.now.items in
      let body = body_of (said_of w) in
      let written = c.in_ok-put_body.ensures.value w (subst (λ s. StandsFor s w) (sym c.state.ensures.value) stands) in
      let lines = last_lines old body c.put_body.new.out.items _ _ _ _ _ written c.as_slice.ensures.value
      c.as_slice-2.ensures.value c.feeds_in-before.ensures.value c.feeds_in.ensures.value
      c.saturating_sub-lines.ensures in
      last ∙ ap (λ n. c.put_body.new.out.items ++ closing_line n) lines ∙ ap (λ o. o ++ last_line body) written
      ∙ append_assoc old body (last_line body)) c.put_closing_line.ensures.value;
}
