-- Paths of files.
use Rattle.std.specs.Prelude.{ℕ, ◌==◌, nat_le, List, length, Result, Ok, Err, if◌then◌else◌}
use Rattle.mg_service.specs.declared.file_path_fault.FilePathFault.{FilePathFault}
use Rattle.mg_service.specs.declared.file_path_fault.FilePathFault.TheVariants.{Empty, TooLong}

-- `text` as a path, or the reason why it can't be a path. Temporary files have longer names, so the limit is below the
-- system's.
abbrev pub file_path : List ℕ → Result (List ℕ) FilePathFault
file_path text =
    if length text == 0 then Err Empty
    else (if nat_le (length text) 4000 then Ok text else Err TooLong)
