use Rattle.std.proofs.Common.{◌∙◌, ℕ, List, [], Option, ap, codes}
use Rattle.std.specs.Prelude.{unwrap_or}
use Rattle.clap.specs.Words.{found_of}
use Rattle.clap.proofs.WalkLemmas.{raw_values-rows}
use Rattle.mg_service.specs.Address.{bind_addresses_of}
use Rattle.mg_arguments.proofs.options.bind_addresses_of.Goals as goal

pub returns-in-Some : goal.returns-in-Some
returns-in-Some c =
    let named = c.in-Some.ensures ∙ raw_values-rows (found_of c.args.matches.now) (codes "bind-address") in
    record { value = c.of.ensures.value ∙ ap (λ (o : Option (List (List ℕ))). bind_addresses_of (unwrap_or o [])) named }

pub returns-in-None : goal.returns-in-None
returns-in-None c =
    let named = c.in-None.ensures ∙ raw_values-rows (found_of c.args.matches.now) (codes "bind-address") in
    record {
      value = c.of-in-None.ensures.value ∙
          ap (λ (o : Option (List (List ℕ))). bind_addresses_of (unwrap_or o [])) named;
    }
