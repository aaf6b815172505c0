use Rattle.std.proofs.Common.{pos, ◌+◌, ◌*◌, FitsSigned, rules, arith}
use Rattle.std.specs.Int.{w16, w32}
use Rattle.std.proofs.lemmas.Int.{ints}
use Rattle.mg_sums.specs.Samples.{sample}
use Rattle.mg_g711.proofs.Chunks.{chunk_more, one_more, chunk_is}
use Rattle.mg_sums.proofs.kernels.change_row.Goals as goal

pub change_chunk-requires-clause-olds : goal.change_chunk-requires-clause-olds
change_chunk-requires-clause-olds c = λ j l.
    let read = chunk_is 8 c.as_chunks.result.0.now c.args.old.now (pos 0) c.loop-i.i j c.as_chunks.ensures.front
    (omega arith) l in
    rw read (c.assert_sample_range.ensures (8 * c.loop-i.i + j) (omega arith))

pub change_chunk-requires-clause-news : goal.change_chunk-requires-clause-news
change_chunk-requires-clause-news c = λ j l.
    let read = chunk_is 8 c.as_chunks-2.result.0.now c.args.new.now (pos 0) c.loop-i.i j c.as_chunks-2.ensures.front
    (omega arith) l in
    rw read (c.assert_sample_range-2.ensures (8 * c.loop-i.i + j) (omega arith))

pub change_chunk-requires-clause-fits : goal.change_chunk-requires-clause-fits
change_chunk-requires-clause-fits c = λ j l.
    let old = chunk_is 8 c.as_chunks.result.0.now c.args.old.now (pos 0) c.loop-i.i j c.as_chunks.ensures.front
    (omega arith) l in
    let new = chunk_is 8 c.as_chunks-2.result.0.now c.args.new.now (pos 0) c.loop-i.i j c.as_chunks-2.ensures.front
    (omega arith) l in
    let same = c.loop-i.invariant.rest (8 * c.loop-i.i + j) (omega arith) in
    rw (old, new, same) (c.requires.fits (8 * c.loop-i.i + j) (omega arith))

pub loop-i-preserved : goal.loop-i-preserved
loop-i-preserved c = chunk_more 8 _ _ _ _ _ _ _ c.loop-i.invariant c.change_chunk.ensures (omega arith) (λ j l.
    let old = chunk_is 8 c.as_chunks.result.0.now c.args.old.now (pos 0) c.loop-i.i j c.as_chunks.ensures.front
    (omega arith) l in
    let new = chunk_is 8 c.as_chunks-2.result.0.now c.args.new.now (pos 0) c.loop-i.i j c.as_chunks-2.ensures.front
    (omega arith) l in
    let same = c.loop-i.invariant.rest (8 * c.loop-i.i + j) (omega arith) in
    omega (arith, ints, old, new, same))

pub loop-i-2-preserved : goal.loop-i-2-preserved
loop-i-2-preserved c =
    let total : FitsSigned w32 (sample c.loop-i-2.total c.loop-i-2.i) = search rules in
    let old : FitsSigned w16 (sample c.args.old.now c.loop-i-2.i) = search rules in
    let new : FitsSigned w16 (sample c.args.new.now c.loop-i-2.i) = search rules in
    let same = c.loop-i-2.invariant.rest c.loop-i-2.i (omega arith) in
    let fits = c.requires.fits c.loop-i-2.i (omega arith) in
    one_more _ _ _ _ _ c.loop-i-2.invariant (omega arith) (omega (arith, ints))

pub overflow_add-total : goal.overflow_add-total
overflow_add-total c =
    let total : FitsSigned w32 (sample c.loop-i-2.total c.loop-i-2.i) = search rules in
    let old : FitsSigned w16 (sample c.args.old.now c.loop-i-2.i) = search rules in
    let new : FitsSigned w16 (sample c.args.new.now c.loop-i-2.i) = search rules in
    let same = c.loop-i-2.invariant.rest c.loop-i-2.i (omega arith) in
    let fits = c.requires.fits c.loop-i-2.i (omega arith) in
    omega (arith, ints)
