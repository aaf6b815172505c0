use Rattle.std.proofs.Common.{◌∙◌}
use Rattle.std.specs.Int.{w16}
use Rattle.mg_g711.proofs.Lanes.{given_bytes, mapped, zipped, asked, chosen, splat, stored, each, looked_up, lookups_fit}
use Rattle.mg_g711.proofs.DecodedLanes.{a_factors, a_starts, a_exponent_below, a_magnitude_fits, a_sample_is}
use Rattle.mg_g711.proofs.decoding.decode_a.Goals as goal

pub swizzle-factors : goal.swizzle-factors
swizzle-factors c =
    let turned = zipped _ (given_bytes 16 c.args.chunk.now c.told-chunk) (splat 16 213) in
    lookups_fit (zipped _ (zipped _ turned (splat 16 4)) (splat 16 7))
    (λ j l. a_exponent_below _ (c.requires.bytes j l))

pub swizzle-first : goal.swizzle-first
swizzle-first c =
    let turned = zipped _ (given_bytes 16 c.args.chunk.now c.told-chunk) (splat 16 213) in
    lookups_fit (zipped _ (zipped _ turned (splat 16 4)) (splat 16 7))
    (λ j l. a_exponent_below _ (c.requires.bytes j l))

pub overflow_cast-magnitudes-3 : goal.overflow_cast-magnitudes-3
overflow_cast-magnitudes-3 c =
    let turned = zipped _ (given_bytes 16 c.args.chunk.now c.told-chunk) (splat 16 213) in
    let exponents = zipped _ (zipped _ turned (splat 16 4)) (splat 16 7) in
    let factors = looked_up a_factors exponents (λ j l. a_exponent_below _ (c.requires.bytes j l)) in
    let first = looked_up a_starts exponents (λ j l. a_exponent_below _ (c.requires.bytes j l)) in
    let starts = zipped _ (zipped _ (zipped _ turned (splat 16 15)) (splat 16 3)) first in
    each _ (zipped _ (mapped _ starts) (mapped _ factors)) (λ j l. a_magnitude_fits _ (c.requires.bytes j l))

pub returns : goal.returns
returns c =
    let turned = zipped _ (given_bytes 16 c.args.chunk.now c.told-chunk) (splat 16 213) in
    let exponents = zipped _ (zipped _ turned (splat 16 4)) (splat 16 7) in
    let factors = looked_up a_factors exponents (λ j l. a_exponent_below _ (c.requires.bytes j l)) in
    let first = looked_up a_starts exponents (λ j l. a_exponent_below _ (c.requires.bytes j l)) in
    let starts = zipped _ (zipped _ (zipped _ turned (splat 16 15)) (splat 16 3)) first in
    let magnitudes = mapped _ (zipped _ (mapped _ starts) (mapped _ factors)) in
    let positive = asked _ (zipped _ (mapped _ turned) (splat 16 128)) in
    let put = stored w16 (chosen positive magnitudes (zipped _ magnitudes (splat 16 65535))) c.args.at
    c.args.samples.now c.requires.within in
    record {
      inside = λ j l. put.inside j l ∙ a_sample_is _ (c.requires.bytes j l);
      below = put.below;
      above = put.above;
    }
