use Rattle.std.proofs.Common.{arith, ◌∙◌}
use Rattle.std.specs.Int.{w16, w32}
use Rattle.std.proofs.lemmas.Int.{ints}
use Rattle.mg_g711.proofs.Lanes.{given, loaded, mapped, zipped, stored, each_both}
use Rattle.mg_sums.proofs.kernels.change_chunk.Goals as goal

pub overflow_sub-change : goal.overflow_sub-change
overflow_sub-change c =
    each_both _ (mapped _ (given w16 8 c.args.new.now c.told-new)) (mapped _ (given w16 8 c.args.old.now c.told-old))
    (λ j l. let old = c.requires.olds j l in let new = c.requires.news j l in omega (arith, ints))

pub overflow_add-sums : goal.overflow_add-sums
overflow_add-sums c =
    each_both _ (loaded w32 8 c.args.at c.args.total.now c.requires.within)
    (zipped _ (mapped _ (given w16 8 c.args.new.now c.told-new)) (mapped _ (given w16 8 c.args.old.now c.told-old)))
    (λ j l. let old = c.requires.olds j l in let new = c.requires.news j l in let sum = c.requires.sums j l in let
    fits = c.requires.fits j l in omega (arith, ints))

pub returns : goal.returns
returns c =
    let put = stored w32 (zipped _ (loaded w32 8 c.args.at c.args.total.now c.requires.within)
    (zipped _ (mapped _ (given w16 8 c.args.new.now c.told-new)) (mapped _ (given w16 8 c.args.old.now c.told-old))))
    c.args.at c.args.total.now c.requires.within in
    record {
      inside = λ j l. let old = c.requires.olds j l in let new = c.requires.news j l in let sum = c.requires.sums j l
          in let fits = c.requires.fits j l in put.inside j l ∙ omega (arith, ints);
      below = put.below;
      above = put.above;
    }
