use Rattle.std.proofs.Common.{◌≡◌, ◌<◌, ◌∙◌, ℕ, ℤ, List, length, ap, arith, [], slice_index_or}
use Rattle.std.proofs.lemmas.Int.{ints}
use Rattle.std.proofs.lemmas.List.{get_or_read}
use Rattle.mg_sums.specs.Samples.{sample}
use Rattle.mg_sums.specs.Sums.{sample_in}
use Rattle.mg_sums.proofs.SumLemmas.{left_out-more}
use Rattle.mg_sums.proofs.TotalLemmas.{sample_near}
use Rattle.mg_sums.proofs.sums.write_rest.Goals as goal

pub loop-row-preserved : goal.loop-row-preserved
loop-row-preserved c =
    let at : ℕ = c.loop-row.row-index in
    let row : c.row-item.result ≡ slice_index_or c.args.minus.now at 0 =
    get_or_read _ _ _ c.loop-row-test.true c.row-item.is 0 in
    let within : c.number.result < length c.args.frames.now = omega (arith, c.requires.frames.0) in
    let frame : c.index-frames-number.result ≡ slice_index_or c.args.frames.now c.number.result [] =
    get_or_read _ _ _ within c.index-frames-number.is [] in
    let sample_is : (i : ℕ) → sample c.index-frames-number.result i ≡
    sample_in c.args.frames.now i (slice_index_or c.args.minus.now at 0) = λ i.
    ap (λ (xs : List ℤ). sample xs i) frame ∙
    ap (λ (r : ℕ). sample_in c.args.frames.now i r) (c.number.ensures.value ∙ row) in
    record {
      sums = λ i l. omega (
        arith,
        ints,
        c.take.ensures.sums i l,
        sample_is i,
        c.loop-row.invariant.sums i l,
        left_out-more (sample_in c.args.frames.now i) c.args.base c.args.minus.now at c.loop-row-test.true,
      );
      near = λ i l. omega (
        arith,
        ints,
        c.take.ensures.sums i l,
        sample_is i,
        c.loop-row.invariant.near i l,
        sample_near c.args.frames.now i (slice_index_or c.args.minus.now at 0) c.requires.frames.1,
      );
      work = omega (arith, c.take.ensures.work, c.loop-row.invariant.work);
    }
