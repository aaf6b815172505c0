use Rattle.std.proofs.Common.{not}
use Rattle.std.proofs.lemmas.List.Filters.{FiltersInPlace}
use Rattle.mg_kept.specs.KeptReplies.{is_in_range}
use Rattle.mg_kept.proofs.kept.drop_range.Given as goal

-- The remaining replies so far are at the front, in their order.
abbrev pub invariant-loop-i : goal.invariant-loop-i
invariant-loop-i l = FiltersInPlace (λ reply. not (is_in_range l.sender l.first l.last reply)) l.initial.places
    l.places l.stay l.i
