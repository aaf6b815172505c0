use Rattle.std.proofs.Common.{◌≤◌, ◌++◌, length, ap, sym, subst, ◌∙◌, arith}
use Rattle.std.specs.List.{flat_map}
use Rattle.mg_rooms.specs.Registry.{Registry}
use Rattle.mg_checkpoint.specs.Said.{said_terminations}
use Rattle.mg_checkpoint.specs.aids.Text.{termination_lines}
use Rattle.mg_checkpoint.proofs.SavingLemmas.{all_said}
use Rattle.mg_checkpoint.proofs.WritingLemmas.{written_next}
use Rattle.mg_checkpoint.proofs.saving.put_terminations.Goals as goal

pub loop-place-preserved : goal.loop-place-preserved
loop-place-preserved c w stands =
    let (t, at, written) = c.in_ok-put_termination.ensures.value w stands in
    written ∙ ap (λ o. o ++ termination_lines t) (c.loop-place.invariant w stands)
    ∙ written_next termination_lines c.args.out.now.items (said_terminations w) c.loop-place.place t at

pub returns : goal.returns
returns c = record {
  value = λ w stands.
      let enough : length c.args.engine.now.rooms.terminations ≤ c.loop-place.place = omega arith in
      let these = subst (λ (k : Registry). length k.terminations ≤ c.loop-place.place) (sym stands.rooms) enough in
      c.loop-place.invariant w stands
      ∙ ap (λ ts. c.args.out.now.items ++ flat_map termination_lines ts) (all_said w c.loop-place.place these);
}
