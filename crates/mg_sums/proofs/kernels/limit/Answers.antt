use Rattle.std.proofs.Common.{pos, ◌+◌, ◌*◌, FitsSigned, rules, arith, ap}
use Rattle.std.specs.Int.{w32}
use Rattle.std.proofs.lemmas.Int.{ints, clamps}
use Rattle.mg_sums.specs.Samples.{sample, nearest_sample}
use Rattle.mg_g711.proofs.Chunks.{chunk_more, one_more, chunk_is}
use Rattle.mg_sums.proofs.kernels.limit.Goals as goal

pub limit_chunk-requires-clause-sums : goal.limit_chunk-requires-clause-sums
limit_chunk-requires-clause-sums c = λ j l.
    let sum = chunk_is 8 c.as_chunks.result.0.now c.args.sums.now (pos 0) c.loop-i.i j c.as_chunks.ensures.front
    (omega arith) l in
    rw sum (c.assert_sum_range.ensures (8 * c.loop-i.i + j) (omega arith))

pub loop-i-preserved : goal.loop-i-preserved
loop-i-preserved c = chunk_more 8 _ _ _ _ _ _ _ c.loop-i.invariant c.limit_chunk.ensures (omega arith) (λ j l.
    ap nearest_sample (chunk_is 8 c.as_chunks.result.0.now c.args.sums.now (pos 0) c.loop-i.i j
    c.as_chunks.ensures.front (omega arith) l))

pub loop-i-2-preserved : goal.loop-i-2-preserved
loop-i-2-preserved c =
    let old : FitsSigned w32 (sample c.args.sums.now c.loop-i-2.i) = search rules in
    one_more _ _ _ _ _ c.loop-i-2.invariant (omega arith) (omega (arith, ints, clamps))
