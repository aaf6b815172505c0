use Rattle.std.proofs.Common.{◌∙◌, ℕ, false, List, Option, ap, codes}
use Rattle.std.specs.Option.{option_map_or}
use Rattle.std.specs.Str.{bytes_eq}
use Rattle.clap.specs.Words.{found_of}
use Rattle.clap.proofs.WalkLemmas.{first_value-rows}
use Rattle.mg_arguments.proofs.options.is_set.Goals as goal

pub returns-in-Some : goal.returns-in-Some
returns-in-Some c =
    let named = c.in-Some.ensures ∙ first_value-rows (found_of c.args.matches.now) c.args.name.now in
    record {
      value = c.eq.ensures ∙
          ap (λ (o : Option (List ℕ)). option_map_or (λ (text : List ℕ). bytes_eq text (codes "true")) o false) named;
    }

pub returns-in-None : goal.returns-in-None
returns-in-None c =
    let named = c.in-None.ensures ∙ first_value-rows (found_of c.args.matches.now) c.args.name.now in
    record {
      value =
          ap (λ (o : Option (List ℕ)). option_map_or (λ (text : List ℕ). bytes_eq text (codes "true")) o false) named;
    }
