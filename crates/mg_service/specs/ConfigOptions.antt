-- The options of a configuration, and the configurations that agree with them.
use Rattle.std.specs.Prelude.{◌≡◌, Bool, true, false, unwrap_or}
use Rattle.mg_engine.specs.declared.config.Config.{Config}
use Rattle.mg_engine.specs.Config.{standard}
use Rattle.mg_service.specs.declared.config_options.ConfigOptions.{ConfigOptions}

-- The configuration with the values of the given options. The other values are those of `config`. So a configuration
-- agrees with the given options if `config_or` doesn't change it.
unfoldable pub config_or : ConfigOptions → Config → Config
config_or given config = record config {
  address = unwrap_or given.address config.address;
  control_address = unwrap_or given.control_address config.control_address;
  control_port = unwrap_or given.control_port config.control_port;
  base_port = unwrap_or given.base_port config.base_port;
  slots = unwrap_or given.slots config.slots;
  first_termination = unwrap_or given.first_termination config.first_termination;
  first_context = unwrap_or given.first_context config.first_context;
  ssrc = unwrap_or given.ssrc config.ssrc;
  sequence = unwrap_or given.sequence config.sequence;
  timestamp = unwrap_or given.timestamp config.timestamp;
}

-- The configuration that the options specify. Options that aren't given have their default values. By default, the
-- address for control messages is the address for media.
abbrev pub config_of : ConfigOptions → Config
config_of given = config_or given
    (record standard { control_address = unwrap_or given.address standard.address })

-- The configuration of a new gateway. It is `config` or, if numbers are drawn, it differs from `config` only in those of
-- the three drawn numbers that no option sets.
abbrev pub IsDrawn : (draws : Bool) → ConfigOptions → (config drawn : Config) → Type 0
IsDrawn false given config drawn = drawn ≡ config
IsDrawn true given config drawn = drawn ≡ config_or given (record config {
  ssrc = drawn.ssrc;
  sequence = drawn.sequence;
  timestamp = drawn.timestamp;
})
