use Rattle.std.proofs.Common.{◌∙◌, ℕ, List, Option, ap, is_some}
use Rattle.clap.specs.Words.{found_of}
use Rattle.clap.proofs.WalkLemmas.{first_value-rows}
use Rattle.mg_arguments.proofs.options.is_given.Goals as goal

pub returns-in-Some : goal.returns-in-Some
returns-in-Some c = record {
  value = ap (λ (o : Option (List ℕ)). is_some o)
      (c.in-Some.ensures ∙ first_value-rows (found_of c.args.matches.now) c.args.name.now);
}

pub returns-in-None : goal.returns-in-None
returns-in-None c = record {
  value = ap (λ (o : Option (List ℕ)). is_some o)
      (c.in-None.ensures ∙ first_value-rows (found_of c.args.matches.now) c.args.name.now);
}
