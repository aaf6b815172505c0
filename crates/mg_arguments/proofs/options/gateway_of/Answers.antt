use Rattle.std.proofs.Common.{◌∙◌, ℕ, List, Option, ap, codes}
use Rattle.std.specs.Prelude.{option_and_then}
use Rattle.clap.specs.Words.{found_of}
use Rattle.clap.proofs.WalkLemmas.{first_value-rows}
use Rattle.mg_core.specs.Peer.{peer_of}
use Rattle.mg_arguments.proofs.options.gateway_of.Goals as goal

pub returns-in-Some : goal.returns-in-Some
returns-in-Some c =
    let named = c.in-Some.ensures ∙ first_value-rows (found_of c.args.matches.now) (codes "gateway") in
    record {
      value = c.peer_of.ensures.value ∙ ap peer_of c.as_bytes.ensures.value
          ∙ ap (λ (o : Option (List ℕ)). option_and_then peer_of o) named;
    }

pub returns-in-None : goal.returns-in-None
returns-in-None c =
    let named = c.in-None.ensures ∙ first_value-rows (found_of c.args.matches.now) (codes "gateway") in
    record { value = ap (λ (o : Option (List ℕ)). option_and_then peer_of o) named }
