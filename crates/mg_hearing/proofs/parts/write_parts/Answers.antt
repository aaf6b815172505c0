use Rattle.std.proofs.Common.{Bor, List, ℕ}
use Rattle.std.proofs.KnownBytes.{Appends-trans}
use Rattle.mg_hearing.proofs.PageLemmas.{piece_more}
use Rattle.mg_hearing.proofs.parts.write_parts.Goals as goal

pub loop-part-preserved : goal.loop-part-preserved
loop-part-preserved g c =
    let held = g.W.Write.contents in
    let (written, before, left) = c.loop-part.invariant in (
      _,
      Appends-trans (held c.args.output.now) (held c.loop-part.output) (held c.write_all.new.self) written _ before
          c.in_ok-write_all.ensures.bytes,
      piece_more (λ (p : Bor (List ℕ)). p.now) c.args.parts.now c.loop-part.part-index _ written _ c.loop-part-test.true
          left,
    )
