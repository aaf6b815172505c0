use Rattle.std.proofs.Common.{◌∙◌}
use Rattle.std.specs.Int.{w16, w32}
use Rattle.mg_sums.specs.Samples.{sample}
use Rattle.mg_g711.proofs.Lanes.{given, mapped, zipped, asked, chosen, splat, stored, each}
use Rattle.mg_sums.proofs.LimitLane.{limit_lane, limit_asked}
use Rattle.mg_sums.proofs.kernels.limit_chunk.Goals as goal

pub overflow_cast-samples : goal.overflow_cast-samples
overflow_cast-samples c =
    let sums = given w32 8 c.args.chunk.now c.told-chunk in
    let above = chosen (asked _ (zipped _ sums (splat 8 4294934528))) (splat 8 4294934528) sums in
    each _ (chosen (asked _ (zipped _ above (splat 8 32767))) above (splat 8 32767))
    (λ j l. limit_asked (sample c.args.chunk.now j) (c.requires.sums j l))

pub returns : goal.returns
returns c =
    let sums = given w32 8 c.args.chunk.now c.told-chunk in
    let above = chosen (asked _ (zipped _ sums (splat 8 4294934528))) (splat 8 4294934528) sums in
    let put = stored w16 (mapped _ (chosen (asked _ (zipped _ above (splat 8 32767))) above (splat 8 32767)))
    c.args.at c.args.samples.now c.requires.within in
    record {
      inside = λ j l. put.inside j l ∙ limit_lane (sample c.args.chunk.now j) (c.requires.sums j l);
      below = put.below;
      above = put.above;
    }
