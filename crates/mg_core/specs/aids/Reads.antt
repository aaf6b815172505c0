-- The result of parsing a part of a line.
use Rattle.std.specs.Prelude.{◌≡◌, Option, Some, None, Result, Ok, Err}
use Rattle.mg_core.specs.declared.script.ParseFault.{ParseFault}
use Rattle.mg_core.specs.declared.script.ParseFault.TheVariants as faults

-- The parsed value, seen through `view`, is the specified value. If the text is bad, no value is specified. If memory
-- ran out, nothing is known.
abbrev pub Reads : {X Y : Type 0} → (X → Y) → Result X ParseFault → Option Y → Type 0
Reads view (Ok x) o = o ≡ Some (view x)
Reads view (Err faults.Bad) o = o ≡ None
Reads view (Err faults.NoMemory) o = Unit {0}
