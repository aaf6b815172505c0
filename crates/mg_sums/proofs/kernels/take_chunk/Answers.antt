use Rattle.std.proofs.Common.{arith, ◌∙◌}
use Rattle.std.specs.Int.{w16, w32}
use Rattle.std.proofs.lemmas.Int.{ints}
use Rattle.mg_g711.proofs.Lanes.{given, loaded, mapped, zipped, stored, each_both}
use Rattle.mg_sums.proofs.kernels.take_chunk.Goals as goal

pub overflow_sub-rest : goal.overflow_sub-rest
overflow_sub-rest c =
    each_both _ (loaded w32 8 c.args.at c.args.total.now c.requires.within)
    (mapped _ (given w16 8 c.args.chunk.now c.told-chunk))
    (λ j l. let sample = c.requires.samples j l in let sum = c.requires.sums j l in let fits = c.requires.fits j l in
    omega (arith, ints))

pub returns : goal.returns
returns c =
    let put = stored w32 (zipped _ (loaded w32 8 c.args.at c.args.total.now c.requires.within)
    (mapped _ (given w16 8 c.args.chunk.now c.told-chunk))) c.args.at c.args.total.now c.requires.within in
    record {
      inside = λ j l. let sample = c.requires.samples j l in let sum = c.requires.sums j l in let fits =
          c.requires.fits j l in put.inside j l ∙ omega (arith, ints);
      below = put.below;
      above = put.above;
    }
