use Rattle.std.proofs.Common.{◌+◌, ◌*◌, ◌<◌, arith, ap, pos, rules}
use Rattle.std.specs.Prelude.{FitsSigned}
use Rattle.std.specs.Int.{w16}
use Rattle.std.proofs.lemmas.List.Elements.{All-from_get_or}
use Rattle.mg_g711.specs.Law.{sample_of}
use Rattle.mg_g711.proofs.Chunks.{chunk_more, chunk_is, mapped_is}
use Rattle.mg_g711.proofs.Frames.{decoded_fits}
use Rattle.mg_g711.proofs.frame.decode_frame.Goals as goal

pub decode_chunk-requires-clause-bytes : goal.decode_chunk-requires-clause-bytes
decode_chunk-requires-clause-bytes c = λ j l.
    let read = chunk_is 16 c.as_chunks.result.0.now c.args.bytes.now 0 c.loop-i.i j c.as_chunks.ensures.front
    (omega arith) l in
    rw read (c.fits-bytes (16 * c.loop-i.i + j))

pub loop-i-preserved : goal.loop-i-preserved
loop-i-preserved c = record {
  whole = search rules;
  each = chunk_more 16 _ _ _ _ _ _ _ c.loop-i.invariant.each c.decode_chunk.ensures (omega arith) (λ j l.
      ap (sample_of c.args.law) (chunk_is 16 c.as_chunks.result.0.now c.args.bytes.now 0 c.loop-i.i j
      c.as_chunks.ensures.front (omega arith) l));
}

pub returns-clause-each : goal.returns-clause-each
returns-clause-each c =
    mapped_is (sample_of c.args.law) c.args.bytes.now c.loop-i.samples (omega (arith, c.loop-i.invariant.whole)) (λ k l.
    c.loop-i.invariant.each.done k (omega arith))

pub returns-clause-frame : goal.returns-clause-frame
returns-clause-frame c = record {
  whole = c.loop-i.invariant.whole;
  in_range = All-from_get_or (FitsSigned w16) c.loop-i.samples (pos 0) (λ k l.
      let here : k < 160 = omega (arith, c.loop-i.invariant.whole) in
      rw (c.loop-i.invariant.each.done k (omega arith)) (decoded_fits c.args.law _ (c.fits-bytes k)));
}
