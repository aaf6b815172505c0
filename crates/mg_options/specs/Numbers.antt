-- Options that take one number, as the parser of a command line represents them, and their values.
use Rattle.std.specs.Prelude.{ℕ, ◌&&◌, nat_lt, if◌then◌else◌, List, Option, Some, None, unwrap_or}
use Rattle.std.specs.Prelude.{option_and_then, pos}
use Rattle.std.specs.Str.Parse.{digits_value, without_leading_plus}
use Rattle.clap.specs.ValueTests.{is_numeral}
use Rattle.clap.specs.Walk.{Row, Rule, Text, one_of}
use Rattle.clap.specs.declared.builder.value_parser.ValueParser.TheVariants.{Signed}
use Rattle.mg_options.specs.Line.{text_rule}

-- An option that takes one number, from `least` to `most`.
abbrev pub number_rule : Text → ℕ → ℕ → Rule
number_rule name least most =
    record (text_rule name) { parser = Some (Signed (pos least) (pos most)) }

-- The number that a string denotes in decimal digits, with an optional plus sign. `None` if the string denotes no
-- number, or one that is not below `limit`.
abbrev pub number_below : ℕ → Text → Option ℕ
number_below limit text = let digits = without_leading_plus text in
    if is_numeral digits && nat_lt (digits_value 10 digits) limit
    then Some (digits_value 10 digits) else None

-- The number that was given for an option, if there is one.
abbrev pub number_given : ℕ → Text → List Row → Option ℕ
number_given limit name found = option_and_then (number_below limit) (one_of name found)

-- The number that was given for an option, or a default.
abbrev pub number_or : ℕ → Text → ℕ → List Row → ℕ
number_or limit name otherwise found = unwrap_or (number_given limit name found) otherwise
