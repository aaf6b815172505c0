-- Names of time zones.
use Rattle.std.specs.Prelude.{ℕ, ◌==◌, nat_le, List, length, Option, Some, None, if◌then◌else◌}

-- `text` as the name of a time zone, or `None` if it is empty or too long. The system's names are shorter than 64
-- bytes.
abbrev pub zone_name : List ℕ → Option (List ℕ)
zone_name text =
    if length text == 0 then None else (if nat_le (length text) 64 then Some text else None)
