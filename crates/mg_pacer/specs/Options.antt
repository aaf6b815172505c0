-- The command line, as its parser represents it, and the run that the arguments request.
use Rattle.std.specs.Prelude.{max, min, List, codes, Result, Ok}
use Rattle.clap.specs.Walk.{Row, Text}
use Rattle.clap.specs.Simple.{App, matches_of, with_rule}
use Rattle.clap.specs.Kinds.{Kinds}
use Rattle.clap.specs.Faults.{fault_of}
use Rattle.mg_options.specs.Requested.{requested_by}
use Rattle.mg_options.specs.Line.{program_line}
use Rattle.mg_options.specs.Numbers.{number_or, number_rule}
use Rattle.mg_pacer.specs.declared.options.Options.{Options}

-- The command line, with two options that may each be given once.
unfoldable pub command_line : App
command_line =
    with_rule (with_rule (program_line (codes "mg_pace"))
    (number_rule (codes "ticks") 0 4294967295)) (number_rule (codes "polls") 1 1000)

-- The options with their defaults: 2^64 - 1 ticks, which is never reached, and 4 polls. A number
-- of polls outside 1 to 1000 is a usage error.
unfoldable pub options_in : List Row → Options
options_in found = record {
  ticks = number_or 4294967296 (codes "ticks") 18446744073709551615 found;
  polls = max 1 (min 1000 (number_or 65536 (codes "polls") 4 found));
}

-- The options of the run that the arguments request, or the errors that say why they request no run.
unfoldable pub requested : List Text → Result Options Kinds
requested words =
    requested_by (fault_of command_line words) (Ok (options_in (matches_of command_line words)))
