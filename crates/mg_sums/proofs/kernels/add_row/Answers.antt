use Rattle.std.proofs.Common.{pos, ◌+◌, ◌*◌, FitsSigned, rules, arith}
use Rattle.std.specs.Int.{w16, w32}
use Rattle.std.proofs.lemmas.Int.{ints}
use Rattle.mg_sums.specs.Samples.{sample}
use Rattle.mg_g711.proofs.Chunks.{chunk_more, one_more, chunk_is}
use Rattle.mg_sums.proofs.kernels.add_row.Goals as goal

pub add_chunk-requires-clause-samples : goal.add_chunk-requires-clause-samples
add_chunk-requires-clause-samples c = λ j l.
    let read = chunk_is 8 c.as_chunks.result.0.now c.args.row.now (pos 0) c.loop-i.i j c.as_chunks.ensures.front
    (omega arith) l in
    rw read (c.assert_sample_range.ensures (8 * c.loop-i.i + j) (omega arith))

pub add_chunk-requires-clause-fits : goal.add_chunk-requires-clause-fits
add_chunk-requires-clause-fits c = λ j l.
    let read = chunk_is 8 c.as_chunks.result.0.now c.args.row.now (pos 0) c.loop-i.i j c.as_chunks.ensures.front
    (omega arith) l in
    let same = c.loop-i.invariant.rest (8 * c.loop-i.i + j) (omega arith) in
    rw (read, same) (c.requires.fits (8 * c.loop-i.i + j) (omega arith))

pub loop-i-preserved : goal.loop-i-preserved
loop-i-preserved c = chunk_more 8 _ _ _ _ _ _ _ c.loop-i.invariant c.add_chunk.ensures (omega arith) (λ j l.
    let read = chunk_is 8 c.as_chunks.result.0.now c.args.row.now (pos 0) c.loop-i.i j c.as_chunks.ensures.front
    (omega arith) l in
    let same = c.loop-i.invariant.rest (8 * c.loop-i.i + j) (omega arith) in
    omega (arith, ints, read, same))

pub loop-i-2-preserved : goal.loop-i-2-preserved
loop-i-2-preserved c =
    let old : FitsSigned w32 (sample c.loop-i-2.total c.loop-i-2.i) = search rules in
    let more : FitsSigned w16 (sample c.args.row.now c.loop-i-2.i) = search rules in
    let same = c.loop-i-2.invariant.rest c.loop-i-2.i (omega arith) in
    let fits = c.requires.fits c.loop-i-2.i (omega arith) in
    one_more _ _ _ _ _ c.loop-i-2.invariant (omega arith) (omega (arith, ints))
