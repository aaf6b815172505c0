use Rattle.std.proofs.Common.{pos, ◌+◌, ◌*◌, FitsSigned, rules, arith}
use Rattle.std.specs.Int.{w16, w32}
use Rattle.std.proofs.lemmas.Int.{ints}
use Rattle.mg_sums.specs.Samples.{sample}
use Rattle.mg_g711.proofs.Chunks.{chunk_more, one_more, chunk_is}
use Rattle.mg_sums.proofs.kernels.difference.Goals as goal

pub difference_chunk-requires-clause-samples : goal.difference_chunk-requires-clause-samples
difference_chunk-requires-clause-samples c = λ j l.
    let read = chunk_is 8 c.as_chunks-2.result.0.now c.args.row.now (pos 0) c.loop-i.i j c.as_chunks-2.ensures.front
    (omega arith) l in
    rw read (c.assert_sample_range.ensures (8 * c.loop-i.i + j) (omega arith))

pub difference_chunk-requires-clause-sums : goal.difference_chunk-requires-clause-sums
difference_chunk-requires-clause-sums c = λ j l.
    let sum = chunk_is 8 c.as_chunks.result.0.now c.args.total.now (pos 0) c.loop-i.i j c.as_chunks.ensures.front
    (omega arith) l in
    rw sum (c.assert_sum_range.ensures (8 * c.loop-i.i + j) (omega arith))

pub difference_chunk-requires-clause-fits : goal.difference_chunk-requires-clause-fits
difference_chunk-requires-clause-fits c = λ j l.
    let sum = chunk_is 8 c.as_chunks.result.0.now c.args.total.now (pos 0) c.loop-i.i j c.as_chunks.ensures.front
    (omega arith) l in
    let read = chunk_is 8 c.as_chunks-2.result.0.now c.args.row.now (pos 0) c.loop-i.i j c.as_chunks-2.ensures.front
    (omega arith) l in
    rw (sum, read) (c.requires.fits (8 * c.loop-i.i + j) (omega arith))

pub loop-i-preserved : goal.loop-i-preserved
loop-i-preserved c = chunk_more 8 _ _ _ _ _ _ _ c.loop-i.invariant c.difference_chunk.ensures (omega arith) (λ j l.
    let sum = chunk_is 8 c.as_chunks.result.0.now c.args.total.now (pos 0) c.loop-i.i j c.as_chunks.ensures.front
    (omega arith) l in
    let read = chunk_is 8 c.as_chunks-2.result.0.now c.args.row.now (pos 0) c.loop-i.i j c.as_chunks-2.ensures.front
    (omega arith) l in
    omega (arith, ints, sum, read))

pub loop-i-2-preserved : goal.loop-i-2-preserved
loop-i-2-preserved c =
    let old : FitsSigned w32 (sample c.args.total.now c.loop-i-2.i) = search rules in
    let less : FitsSigned w16 (sample c.args.row.now c.loop-i-2.i) = search rules in
    let fits = c.requires.fits c.loop-i-2.i (omega arith) in
    one_more _ _ _ _ _ c.loop-i-2.invariant (omega arith) (omega (arith, ints))
