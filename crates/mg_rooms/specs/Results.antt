-- A step that may fail.
use Rattle.std.specs.Prelude.{Bool, Result, Ok, Err, if◌then◌else◌}
use Rattle.mg_words.specs.declared.error_number.ErrorNumber.{ErrorNumber}

-- The step fails with this error if the test fails.
abbrev pub passes : Bool → ErrorNumber → Result (Unit {0}) ErrorNumber
passes test refusal = if test then Ok tt else Err refusal
