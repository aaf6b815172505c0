-- Lemmas about words in which the command line finds no fault.
use Rattle.std.proofs.Common.{◌≡◌, ◌∙◌, ◌<◌, ◌≤◌, true, List, [], refl, sym, ap, Ok, arith}
use Rattle.clap.specs.Walk.{Row, Text, rows_of}
use Rattle.clap.specs.Simple.{App, HasMatchesOf, matches_of}
use Rattle.clap.specs.Kinds.{Kinds}
use Rattle.clap.specs.Faults.{fault_of, is_simple_and_free}
use Rattle.clap.specs.Matches.{found_of}
use Rattle.clap.specs.declared.parser.matches.ArgMatches.{ArgMatches}
use Rattle.mg_options.specs.Requested.{requested_by}
use Rattle.mg_options.proofs.RequestedLemmas.{matches_are, no_fault}
use Rattle.mg_pacer.specs.Options.{requested, command_line, options_in}

pub is_simple_line : is_simple_and_free command_line ≡ true
unfolding command_line
is_simple_line = refl

-- The number of polls in the options is never 0.
pub some_polls : (found : List Row) → 0 < (options_in found).polls
unfolding options_in
some_polls found = omega arith

pub few_polls : (found : List Row) → (options_in found).polls ≤ 1000
unfolding options_in
few_polls found = omega arith

-- If the words have no fault, they request a run with the options of their matches.
pub asks_run : (line : App) (words : List Text) → line ≡ command_line → (m : ArgMatches) →
    (is_simple_and_free line ≡ true → fault_of line words ≡ []) → HasMatchesOf line words m
    → requested words ≡ Ok (options_in (rows_of (found_of m)))
unfolding requested
asks_run line words is m passes matches =
    ap (λ (kinds : Kinds). requested_by kinds (Ok (options_in (matches_of command_line words))))
    (no_fault line command_line words is is_simple_line passes)
    ∙ ap (λ (rows : List Row). Ok (options_in rows))
    (sym (matches_are line command_line words is is_simple_line m matches))
