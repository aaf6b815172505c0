use Rattle.std.proofs.Common.{refl}
use Rattle.mg_pacer.specs.Options.{options_in}
use Rattle.mg_pacer.proofs.options.options_of.Goals as goal

pub returns : goal.returns
unfolding options_in
returns c = record {
  value =
      rw (
        c.bounded_polls.ensures.value,
        c.unwrap_or.ensures,
        c.short_value.ensures.value,
        c.ticks_wanted.ensures.value,
        c.long_value.ensures.value,
      ) refl;
}
