use Rattle.std.proofs.Common.{List, ℕ, refl, subst, sym}
use Rattle.sha2.specs.Hashers.{Holds256}
use Rattle.mg_chain.proofs.PartLemmas.{part_nil}
use Rattle.mg_joined.proofs.source.Source.new.Goals as goal

pub returns-clause-chain : goal.returns-clause-chain
returns-clause-chain g c = λ left.
    (λ some. refl, subst (λ (l : List ℕ). Holds256 c.new.result l) (sym part_nil) c.new.ensures.value)
