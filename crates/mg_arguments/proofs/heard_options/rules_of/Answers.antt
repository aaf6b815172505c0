use Rattle.std.proofs.Common.{◌∙◌, ℕ, Bool, List, [], Option, ap, codes}
use Rattle.std.specs.Prelude.{unwrap_or}
use Rattle.clap.specs.Walk.{all_of}
use Rattle.clap.specs.Words.{found_of, rows_of}
use Rattle.clap.proofs.WalkLemmas.{raw_values-rows}
use Rattle.mg_arguments.specs.Rules.{rules_of}
use Rattle.mg_arguments.proofs.heard_options.rules_of.Goals as goal

pub returns-in-Some : goal.returns-in-Some
returns-in-Some c =
    let found = found_of c.args.matches.now in
    let named = c.in-Some.ensures ∙ raw_values-rows found (codes "never") in
    record {
      value = c.of.ensures.value
          ∙ ap (λ (o : Option (List (List ℕ))). rules_of c.is_given-has_names.result (unwrap_or o [])) named
          ∙ ap (λ (b : Bool). rules_of b (unwrap_or (all_of (codes "never") (rows_of found)) []))
          c.is_given-has_names.ensures.value;
    }

pub returns-in-None : goal.returns-in-None
returns-in-None c =
    let found = found_of c.args.matches.now in
    let named = c.in-None.ensures ∙ raw_values-rows found (codes "never") in
    record {
      value = c.of-in-None.ensures.value
          ∙ ap (λ (o : Option (List (List ℕ))). rules_of c.is_given-has_names.result (unwrap_or o [])) named
          ∙ ap (λ (b : Bool). rules_of b (unwrap_or (all_of (codes "never") (rows_of found)) []))
          c.is_given-has_names.ensures.value;
    }
