-- How the result of parsing a command line determines what the arguments request.
use Rattle.std.proofs.Common.{◌≡◌, ◌⊎◌, ◌∙◌, true, List, [], ◌∷◌, inl, inr, sym, ap, subst, Result, Ok, Err}
use Rattle.std.specs.Prelude.{IfErr, IsErrAnd}
use Rattle.std.proofs.lemmas.Bool.{and_parts}
use Rattle.clap.specs.Walk.{Text, rows_of}
use Rattle.clap.specs.Simple.{App, HasMatchesOf, built, is_simple, matches_of, subcommand_of, subcommand_rows_of}
use Rattle.clap.specs.Kinds.{Kinds, IsAmong}
use Rattle.clap.specs.Faults.{fault_of, is_free_app, is_simple_and_free}
use Rattle.clap.specs.Matches.{found_of}
use Rattle.clap.specs.Values.{kind_of}
use Rattle.clap.specs.declared.error.Error.{Error}
use Rattle.clap.specs.declared.error.kind.ErrorKind.{ErrorKind}
use Rattle.clap.specs.declared.parser.matches.ArgMatches.{ArgMatches}
use Rattle.clap.specs.declared.error.kind.ErrorKind.TheVariants.{OutOfMemory}
use Rattle.mg_options.specs.Requested.{IsRefused, requested_by}

refused_by : {A : Type 0} (kinds : Kinds) (read : Result A Kinds) (kind : ErrorKind) →
    (kind ≡ OutOfMemory) ⊎ IsAmong kind kinds
    → IsRefused (requested_by kinds read) kind
refused_by kinds read kind (inl memory) = inl memory
refused_by [] read kind (inr among) = absurd among
refused_by (first ∷ kinds) read kind (inr among) = inr among

module _ (line of : App) (words : List Text) (is : line ≡ of) (is_simple_line : is_simple_and_free of ≡ true) where
  simple : is_simple_and_free line ≡ true
  simple = ap is_simple_and_free is ∙ is_simple_line

  built_simple : is_simple line ≡ true
  built_simple = (and_parts (is_simple line) (is_free_app (built line)) simple).0

  -- If the words have no fault by the command line `line`, they have none by `of`, which is the same command line.
  pub no_fault : (is_simple_and_free line ≡ true → fault_of line words ≡ []) → fault_of of words ≡ []
  no_fault passes = ap (λ (l : App). fault_of l words) (sym is) ∙ passes simple

  pub matches_are : (m : ArgMatches) → HasMatchesOf line words m → rows_of (found_of m) ≡ matches_of of words
  matches_are m matches = (matches built_simple).0 ∙ ap (λ (l : App). matches_of l words) is

  pub subcommand_is : (m : ArgMatches) → HasMatchesOf line words m → subcommand_rows_of m ≡ subcommand_of of words
  subcommand_is m matches = (matches built_simple).1 ∙ ap (λ (l : App). subcommand_of l words) is

  -- If parsing fails with an error of this kind, the words are refused with this kind of error.
  pub asks_none : {A : Type 0} (read : Result A Kinds) (kind : ErrorKind) → (is_simple_and_free line ≡ true →
      (kind ≡ OutOfMemory) ⊎ IsAmong kind (fault_of line words))
      → IsRefused (requested_by (fault_of of words) read) kind
  asks_none read kind fails = refused_by _ read kind
      (subst (λ (l : App). (kind ≡ OutOfMemory) ⊎ IsAmong kind (fault_of l words)) is (fails simple))

-- If a function passes an error on, a property of the error's kind still holds.
pub passed_on : {T : Type 0} (r : Result T Error) (error : Error) (Q : ErrorKind → Type 0) →
    IsErrAnd r (λ e. e ≡ error) → Q (kind_of error)
    → IfErr r (λ e. Q (kind_of e))
passed_on (Ok value) error Q is why = tt
passed_on (Err e) error Q is why = subst (λ (x : Error). Q (kind_of x)) (sym is) why
