-- Configurations with the values of given options.
use Rattle.std.proofs.Common.{◌≡◌, ℕ, true, Option, Some, None, refl, subst, sym}
use Rattle.std.specs.Prelude.{unwrap_or}
use Rattle.mg_engine.specs.declared.config.Config.{Config}
use Rattle.mg_service.specs.declared.config_options.ConfigOptions.{ConfigOptions}
use Rattle.mg_service.specs.ConfigOptions.{IsDrawn, config_or}

-- A value that was chosen for an option agrees with the option.
value_again : {A : Type 0} (given : Option A) (value : A)
    → unwrap_or given value ≡ unwrap_or given (unwrap_or given value)
value_again None value = refl
value_again (Some given) value = refl

-- If the options change a configuration with drawn numbers, the result has drawn numbers.
pub is_drawn : (given : ConfigOptions) (config drawn : Config) (ssrc sequence timestamp : ℕ)
    → drawn ≡ config_or given (record config { ssrc = ssrc; sequence = sequence; timestamp = timestamp })
    → IsDrawn true given config drawn
unfolding config_or
is_drawn given config drawn ssrc sequence timestamp is =
    let chosen : Config = config_or given (record config { ssrc = ssrc; sequence = sequence; timestamp = timestamp }) in
    subst (λ (c : Config). IsDrawn true given config c) (sym is) (λ i. record chosen {
      ssrc = value_again given.ssrc ssrc i;
      sequence = value_again given.sequence sequence i;
      timestamp = value_again given.timestamp timestamp i;
    })
