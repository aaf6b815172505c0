use Rattle.std.proofs.Common.{◌≡◌, List, ◌++◌, ℕ, drop}
use Rattle.std.specs.Io.KnownBytes.{Appends}
use Rattle.std.specs.List.{flat_map}
use Rattle.mg_hearing.proofs.parts.write_parts.Given as goal

abbrev pub invariant-loop-part : goal.invariant-loop-part
invariant-loop-part g l =
    (written : List ℕ)
    × Appends (g.W.Write.contents l.initial.output) (g.W.Write.contents l.output) written
    × (written ++ flat_map (λ p. p.now) (drop l.part-index l.parts) ≡ flat_map (λ p. p.now) l.parts)
