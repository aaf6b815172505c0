use Rattle.std.proofs.Common.{◌≡◌, List, Option, inr, ℕ}
use Rattle.mg_options.specs.declared.status.Status.TheVariants.{Done}
use Rattle.mg_hearing.specs.Audible.{IsAudible}
use Rattle.mg_hearing.proofs.OpenLemmas.{ends_with}
use Rattle.mg_hearing.proofs.audibility.audible_joined.Goals as goal

pub returns-in-Ok-audible_script : goal.returns-in-Ok-audible_script
returns-in-Ok-audible_script g c =
    let asked = c.args.asked in
    let held = g.W.Write.contents in
    record {
      value = ends_with (λ (script : Option (List ℕ)) errors s. (s ≡ Done) × IsAudible asked.talker asked.question script
          (held c.args.output.now) (held c.audible_script.new.output) (errors ≡ c.args.errors.now)) g.K.TextsKey.texts _
          c.audible_script.new.errors _ c.in-Ok-audible_script.status _ c.in-Ok.ensures.text
          (inr c.in-Ok-audible_script.ensures.value) c.end.ensures.value;
    }
