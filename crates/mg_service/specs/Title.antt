-- The title of a recording: its gateway's configuration, written as options of the program.
use Rattle.std.specs.Prelude.{ℕ, Bool, List, [], ◌∷◌, ◌++◌, flat_map, Option, Some, None}
use Rattle.std.specs.Prelude.{codes, decimal, if◌then◌else◌}
use Rattle.mg_engine.specs.declared.config.Config.{Config}
use Rattle.mg_words.specs.Address.{address_text}

-- The options of the configuration, each with its value.
abbrev pub titled_options : Config → List (List ℕ)
titled_options config =
    (codes "address=" ++ address_text config.address)
    ∷ (codes "control-address=" ++ address_text config.control_address)
    ∷ (codes "control-port=" ++ decimal config.control_port)
    ∷ (codes "base-port=" ++ decimal config.base_port)
    ∷ (codes "slots=" ++ decimal config.slots)
    ∷ (codes "first-termination=" ++ decimal config.first_termination)
    ∷ (codes "first-context=" ++ decimal config.first_context)
    ∷ (codes "ssrc=" ++ decimal config.ssrc)
    ∷ (codes "sequence=" ++ decimal config.sequence)
    ∷ (codes "timestamp=" ++ decimal config.timestamp)
    ∷ []

abbrev pub title_text : Config → List ℕ
title_text config =
    codes "mg_bridge replay" ++ flat_map (λ option. codes " --" ++ option) (titled_options config)

-- The first line of a recording or a journal.
abbrev pub title_line : Config → List ℕ
title_line config = codes "# " ++ (title_text config ++ codes "\n")

-- The title of the output, or `None` if the output isn't a recording.
abbrev pub title_if : (records : Bool) → Config → Option (List ℕ)
title_if records config = if records then Some (title_text config) else None
