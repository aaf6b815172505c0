use Rattle.std.proofs.Common.{◌≡◌, ◌++◌, Some, map, get_or, sym, ap, subst, ◌∙◌}
use Rattle.std.specs.List.{flat_map}
use Rattle.mg_rooms.specs.Consistent.{IsConsistent}
use Rattle.mg_rooms.specs.Registry.{Registry, context_at}
use Rattle.mg_checkpoint.specs.aids.Text.{context_line}
use Rattle.mg_checkpoint.proofs.SavingLemmas.{context_step, all_contexts}
use Rattle.mg_checkpoint.proofs.WritingLemmas.{written_next}
use Rattle.mg_checkpoint.proofs.saving.put_contexts.Goals as goal

pub loop-number-preserved : goal.loop-number-preserved
loop-number-preserved c w stands =
    let i = c.loop-number.number-index in
    let numbers = c.as_slice-number-items.result.now in
    let rooms = c.rooms-rooms.ensures.value w stands in
    let these = c.as_slice-number-items.ensures.value ∙ c.contexts-numbers.ensures.value
    ∙ ap (λ (k : Registry). map (λ x. x.number) k.contexts) rooms in
    let consistent = subst IsConsistent (sym stands.rooms) c.terminations.ensures.consistent in
    let (x, at, found, number) = context_step w.rooms numbers i consistent these c.loop-number-test.true in
    c.in_ok-put_context.ensures.value x (subst (λ k. context_at k (get_or numbers i 0) ≡ Some x) (sym rooms) found)
    number
    ∙ ap (λ o. o ++ context_line x) (c.loop-number.invariant w stands)
    ∙ written_next context_line c.args.out.now.items w.rooms.contexts i x at

pub returns : goal.returns
returns c = record {
  value = λ w stands.
      let rooms = c.rooms-rooms.ensures.value w stands in
      let these = c.as_slice-number-items.ensures.value ∙ c.contexts-numbers.ensures.value
      ∙ ap (λ (k : Registry). map (λ x. x.number) k.contexts) rooms in
      c.loop-number.invariant w stands
      ∙ ap (λ xs. c.args.out.now.items ++ flat_map context_line xs)
      (all_contexts w.rooms c.as_slice-number-items.result.now c.loop-number.number-index these
      c.loop-number-test.false);
}
