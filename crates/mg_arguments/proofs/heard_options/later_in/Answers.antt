use Rattle.std.proofs.Common.{◌≡◌, ◌∙◌, ℕ, List, [], ◌∷◌, Option, Ok, ap, codes, drop, map, subst, sym}
use Rattle.std.specs.Prelude.{unwrap_or}
use Rattle.clap.specs.Words.{found_of}
use Rattle.clap.proofs.WalkLemmas.{raw_values-rows}
use Rattle.mg_service.specs.FilePath.{file_path}
use Rattle.mg_service.specs.Read.{all_read}
use Rattle.mg_arguments.specs.aids.Options.{PathsAre}
use Rattle.mg_service.proofs.ReadLemmas.{later_texts}
use Rattle.mg_arguments.proofs.heard_options.later_in.Goals as goal

pub returns-in-Some : goal.returns-in-Some
returns-in-Some c =
    let named = c.in-Some.ensures ∙ raw_values-rows (found_of c.args.matches.now) (codes "file") in
    record {
      value = subst (λ (l : List (List ℕ)). PathsAre (all_read file_path l) c.after_first.result)
          (later_texts (λ t. t.now) c.in-Some.texts.now
          ∙ ap (λ (o : Option (List (List ℕ))). drop 1 (unwrap_or o [])) named) c.after_first.ensures.value;
    }

pub returns-in-None : goal.returns-in-None
returns-in-None c =
    let named = c.in-None.ensures ∙ raw_values-rows (found_of c.args.matches.now) (codes "file") in
    record {
      value = sym (ap (λ (o : Option (List (List ℕ))). all_read file_path (drop 1 (unwrap_or o []))) named)
          ∙ ap (λ (l : List (List ℕ)). Ok l) (sym c.none.ensures.value);
    }
