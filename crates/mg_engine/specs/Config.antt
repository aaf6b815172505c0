-- The configuration of a gateway.
use Rattle.std.specs.Prelude.{◌≡◌, ◌<◌, [], ◌∷◌, None}
use Rattle.mg_words.specs.Limits.{termination_limit}
use Rattle.mg_rooms.specs.declared.limits.Limits.{Limits}
use Rattle.mg_rooms.specs.Limits.{slot_at, AreValidLimits}
use Rattle.mg_engine.specs.declared.config.Config.{Config}

-- The configuration of a gateway on the local machine, with all slots.
abbrev pub standard : Config
standard = record {
  address = 127 ∷ 0 ∷ 0 ∷ 1 ∷ [];
  control_address = 127 ∷ 0 ∷ 0 ∷ 1 ∷ [];
  control_port = 2944;
  base_port = 30000;
  slots = termination_limit;
  first_termination = 1;
  first_context = 1;
  ssrc = 0;
  sequence = 0;
  timestamp = 0;
}

-- The limits on terminations and contexts.
abbrev pub limits_of : Config → Limits
limits_of c =
    record {
      address = c.address;
      base_port = c.base_port;
      slots = c.slots;
      first_termination = c.first_termination;
      first_context = c.first_context;
    }

-- The control port is not 0, and no slot has this port.
pub record HasControlPort (c : Config) : Type 0 where
  pub some : 0 < c.control_port
  pub apart : slot_at (limits_of c) c.control_port ≡ None

-- A gateway can start with this configuration.
pub record IsValidConfig (c : Config) : Type 0 where
  pub limits : AreValidLimits (limits_of c)
  pub control_port : HasControlPort c
