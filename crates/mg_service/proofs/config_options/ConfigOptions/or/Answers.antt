use Rattle.std.proofs.Common.{refl}
use Rattle.mg_service.specs.ConfigOptions.{config_or}
use Rattle.mg_service.proofs.config_options.ConfigOptions.or.Goals as goal

pub returns : goal.returns
unfolding config_or
returns c = record {
  value = rw (
    c.unwrap_or.ensures,
    c.unwrap_or-2.ensures,
    c.unwrap_or-3.ensures,
    c.unwrap_or-4.ensures,
    c.unwrap_or-5.ensures,
    c.unwrap_or-6.ensures,
    c.unwrap_or-7.ensures,
    c.unwrap_or-8.ensures,
    c.unwrap_or-9.ensures,
    c.unwrap_or-10.ensures,
  ) refl;
}
