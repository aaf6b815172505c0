use Rattle.mg_service.proofs.ConfigOptionLemmas.{is_drawn}
use Rattle.mg_service.proofs.config_options.ConfigOptions.draw.Goals as goal

pub returns : goal.returns
returns g c = record {
  drawn = is_drawn c.args.self.now c.args.config.now c.or.result _ _ _ c.or.ensures.value;
}
