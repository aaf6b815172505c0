use Rattle.std.specs.Prelude.{◌≡◌, List, ℕ, Some}
use Rattle.mg_joined.specs.aids.Reading.{IsBefore, IsPassing}
use Rattle.mg_joined.proofs.later.pass_front.Given as goal

abbrev pub invariant-loop-lines : goal.invariant-loop-lines
invariant-loop-lines g l = (before left : List ℕ) → g.B.Read.remaining l.fn.source.reader ≡ Some left →
    IsBefore before left l.fn.source.chain → IsPassing before left (g.B.Read.remaining l.source.reader) l.source.chain
