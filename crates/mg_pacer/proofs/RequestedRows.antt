-- The requests of some command lines, as examples.
use Rattle.std.proofs.Common.{◌≡◌, [], ◌∷◌, Ok, Err, refl, codes}
use Rattle.clap.proofs.OnLiterals.{clap_on_literals}
use Rattle.clap.specs.declared.error.kind.ErrorKind.TheVariants as kind
use Rattle.mg_pacer.specs.Options.{requested, command_line, options_in}

by_itself : requested [] ≡ Ok (record { ticks = 18446744073709551615; polls = 4 })
unfolding requested command_line options_in clap_on_literals
by_itself = refl

with_both : requested (codes "--ticks" ∷ codes "3" ∷ codes "--polls" ∷ codes "2" ∷ []) ≡
    Ok (record { ticks = 3; polls = 2 })
unfolding requested command_line options_in clap_on_literals
with_both = refl

with_most_polls : requested (codes "--polls=1000" ∷ []) ≡ Ok (record { ticks = 18446744073709551615; polls = 1000 })
unfolding requested command_line options_in clap_on_literals
with_most_polls = refl

with_no_tick : requested (codes "--ticks=0" ∷ []) ≡ Ok (record { ticks = 0; polls = 4 })
unfolding requested command_line options_in clap_on_literals
with_no_tick = refl

no_poll : requested (codes "--polls" ∷ codes "0" ∷ []) ≡ Err (kind.ValueValidation ∷ [])
unfolding requested command_line options_in clap_on_literals
no_poll = refl

too_many_polls : requested (codes "--polls" ∷ codes "1001" ∷ []) ≡ Err (kind.ValueValidation ∷ [])
unfolding requested command_line options_in clap_on_literals
too_many_polls = refl

too_many_ticks : requested (codes "--ticks" ∷ codes "4294967296" ∷ []) ≡ Err (kind.ValueValidation ∷ [])
unfolding requested command_line options_in clap_on_literals
too_many_ticks = refl

no_number : requested (codes "--ticks" ∷ []) ≡ Err (kind.InvalidValue ∷ [])
unfolding requested command_line options_in clap_on_literals
no_number = refl

unknown_option : requested (codes "--colour" ∷ []) ≡ Err (kind.UnknownArgument ∷ [])
unfolding requested command_line options_in clap_on_literals
unknown_option = refl

option_twice : requested (codes "--polls=1" ∷ codes "--polls=1" ∷ []) ≡ Err (kind.ArgumentConflict ∷ [])
unfolding requested command_line options_in clap_on_literals
option_twice = refl

help : requested (codes "--help" ∷ []) ≡ Err (kind.DisplayHelp ∷ [])
unfolding requested command_line options_in clap_on_literals
help = refl

version : requested (codes "--version" ∷ []) ≡ Err (kind.DisplayVersion ∷ [])
unfolding requested command_line options_in clap_on_literals
version = refl
