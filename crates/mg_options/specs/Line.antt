-- Command lines as their parser represents them.
use Rattle.std.specs.Prelude.{true, Some}
use Rattle.clap.specs.Walk.{Rule, Text}
use Rattle.clap.specs.Simple.{App, new_app, new_rule, on_top}

-- The command line of a program with this name and a version. The arguments don't include the program's name.
abbrev pub program_line : Text → App
program_line name =
    on_top (λ top. record top { no_binary_name = true; has_version = true }) (new_app name)

-- An option that takes one string.
abbrev pub text_rule : Text → Rule
text_rule name = record (new_rule name) { long = Some name; value_names = 1 }
