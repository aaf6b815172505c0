-- The ports of a gateway.
use Rattle.std.specs.Prelude.{◌≡◌, ◌⊎◌, ℕ, ◌<◌, List, ◌∷◌, map, Option, true, unwrap_or}
use Rattle.std.specs.List.{range_with_len}
use Rattle.mg_host.specs.declared.host_call.HostCall.{HostCall}
use Rattle.mg_host.specs.declared.host_call.HostCall.TheVariants.{Bind, BindAlso}
use Rattle.mg_engine.specs.Limits.{slot_port}
use Rattle.mg_engine.specs.declared.config.Config.{Config}
use Rattle.mg_engine.specs.Config.{limits_of}

-- The port is one of the ports of a gateway: the control port or a media port.
abbrev pub IsPortOf : Config → ℕ → Type 0
IsPortOf config port = (port ≡ config.control_port)
    ⊎ ((slot : ℕ) × (slot < config.slots) × (port ≡ slot_port (limits_of config) slot))

-- The control socket, and then this many media sockets.
abbrev pub first_binds : Config → (address : Option (List ℕ)) → (count : ℕ) → List HostCall
first_binds config address count =
    Bind (unwrap_or address config.control_address) config.control_port true
    ∷ map (λ slot. Bind (unwrap_or address config.address) (slot_port (limits_of config) slot) true)
    (range_with_len 0 count)

-- A further control socket for each address.
abbrev pub other_binds : (port : ℕ) → (addresses : List (List ℕ)) → List HostCall
other_binds port addresses = map (λ address. BindAlso address port true) addresses
