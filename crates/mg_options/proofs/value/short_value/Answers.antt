use Rattle.std.proofs.Common.{refl}
use Rattle.std.specs.Str.Parse.{ParsesUnsigned, ExplainsUnsignedError, HasUnsignedDigitsIfOk}
use Rattle.clap.specs.Words.{found_of}
use Rattle.mg_options.proofs.NumberLemmas.{given_is}
use Rattle.mg_options.proofs.value.short_value.Goals as goal

pub returns : goal.returns
returns c = record {
  value =
      given_is _ (λ bs r. ParsesUnsigned 16 10 bs r × ExplainsUnsignedError 10 bs r × HasUnsignedDigitsIfOk bs r) 16
      65536 refl (λ t r g. g.0)
      (found_of c.args.matches.now) c.args.name.now c.get_one.result c.get_one.ensures.none c.get_one.ensures.value;
}
