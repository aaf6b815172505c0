use Rattle.mg_engine.proofs.Common.{◌≡◌, ℕ, replicate, ap, ◌∙◌, arith, place_count}
use Rattle.mg_engine.proofs.seating.Seating.new.Goals as goal

pub returns : goal.returns
returns c =
    let all : c.loop.counter ≡ place_count = omega arith in record {
      value = c.loop.invariant ∙ ap (λ (n : ℕ). replicate n 0) all;
    }
