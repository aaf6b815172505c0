-- Scripts that begin with a checkpoint.
use Rattle.std.specs.Prelude.{ℕ, List, ◌++◌, Option, IfSome, codes}
use Rattle.std.specs.Io.{StartsWith}
use Rattle.mg_engine.specs.declared.config.Config.{Config}
use Rattle.mg_service.specs.Title.{title_line}

-- A text begins with the title of some gateway and the first words of a checkpoint.
abbrev pub BeginsWithCheckpoint : Option (List ℕ) → Type 0
BeginsWithCheckpoint text =
    IfSome text (λ t. (config : Config) × StartsWith t (title_line config ++ codes "checkpoint after "))
