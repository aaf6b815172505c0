use Rattle.std.proofs.Common.{not, get_or, ap, sym, ◌∙◌, arith}
use Rattle.std.proofs.lemmas.List.Filters.{FiltersInPlace-more_no, FiltersInPlace-more_swap}
use Rattle.mg_kept.proofs.kept.drop_range.Goals as goal
use Rattle.mg_kept.proofs.kept.drop_range.Goals.{then-not-is_in_range, else-not-is_in_range}

pub loop-i-preserved : goal.loop-i-preserved
loop-i-preserved c =
    elim c.if-not-is_in_range.branch [
      | then-not-is_in_range w ↦ rw (w.places-is, w.stay-is)
          (FiltersInPlace-more_swap {x = get_or c.loop-i.places c.loop-i.i c.index-places-i.result} c.loop-i.invariant
          (omega arith)
          (ap not (sym c.is_in_range.ensures.value ∙ w.if-not-is_in_range.true))
          (ap (λ d. get_or c.loop-i.places c.loop-i.i d) c.index-places-i.is) w.swap.ensures.by_index)
      | else-not-is_in_range w ↦ rw (w.places-is, w.stay-is)
          (FiltersInPlace-more_no {x = get_or c.loop-i.places c.loop-i.i c.index-places-i.result} c.loop-i.invariant
          (omega arith)
          (ap not (sym c.is_in_range.ensures.value ∙ w.if-not-is_in_range.false))
          (ap (λ d. get_or c.loop-i.places c.loop-i.i d) c.index-places-i.is))
    ]
