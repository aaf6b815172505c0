use Rattle.std.proofs.Common.{◌∙◌}
use Rattle.std.specs.Int.{w16}
use Rattle.mg_g711.proofs.Lanes.{given_bytes, mapped, zipped, asked, chosen, splat, stored, each, looked_up, lookups_fit}
use Rattle.mg_g711.proofs.DecodedLanes.{mu_factors, mu_exponent_below, mu_magnitude_fits, mu_sample_is}
use Rattle.mg_g711.proofs.decoding.decode_mu.Goals as goal

pub swizzle-factors : goal.swizzle-factors
swizzle-factors c =
    let turned = zipped _ (given_bytes 16 c.args.chunk.now c.told-chunk) (splat 16 255) in
    let exponents = zipped _ (zipped _ turned (splat 16 4)) (splat 16 7) in
    lookups_fit exponents (λ j l. mu_exponent_below _ (c.requires.bytes j l))

pub overflow_cast-magnitudes : goal.overflow_cast-magnitudes
overflow_cast-magnitudes c =
    let turned = zipped _ (given_bytes 16 c.args.chunk.now c.told-chunk) (splat 16 255) in
    let exponents = zipped _ (zipped _ turned (splat 16 4)) (splat 16 7) in
    let factors = looked_up mu_factors exponents (λ j l. mu_exponent_below _ (c.requires.bytes j l)) in
    let starts = zipped _ (zipped _ (zipped _ turned (splat 16 15)) (splat 16 3)) (splat 16 132) in
    each _ (zipped _ (zipped _ (mapped _ starts) (mapped _ factors)) (splat 16 132))
    (λ j l. mu_magnitude_fits _ (c.requires.bytes j l))

pub returns : goal.returns
returns c =
    let turned = zipped _ (given_bytes 16 c.args.chunk.now c.told-chunk) (splat 16 255) in
    let exponents = zipped _ (zipped _ turned (splat 16 4)) (splat 16 7) in
    let factors = looked_up mu_factors exponents (λ j l. mu_exponent_below _ (c.requires.bytes j l)) in
    let starts = zipped _ (zipped _ (zipped _ turned (splat 16 15)) (splat 16 3)) (splat 16 132) in
    let magnitudes = mapped _ (zipped _ (zipped _ (mapped _ starts) (mapped _ factors)) (splat 16 132)) in
    let positive = asked _ (zipped _ (mapped _ turned) (splat 16 128)) in
    let put = stored w16 (chosen positive magnitudes (zipped _ magnitudes (splat 16 65535))) c.args.at
    c.args.samples.now c.requires.within in
    record {
      inside = λ j l. put.inside j l ∙ mu_sample_is _ (c.requires.bytes j l);
      below = put.below;
      above = put.above;
    }
