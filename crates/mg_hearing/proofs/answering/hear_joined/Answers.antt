use Rattle.std.proofs.Common.{List, Option, ℕ}
use Rattle.mg_hearing.specs.Absence.{Receives}
use Rattle.mg_hearing.specs.Heard.{IsHeard}
use Rattle.mg_hearing.proofs.OpenLemmas.{ends_with}
use Rattle.mg_hearing.proofs.answering.hear_joined.Goals as goal

pub returns-in-Ok-hear_script : goal.returns-in-Ok-hear_script
returns-in-Ok-hear_script g c =
    let held = g.W.Write.contents in
    record {
      value = ends_with (λ (script : Option (List ℕ)) errors s. IsHeard c.args.asking.request.now c.args.asking.question
          script (held c.args.output.now) (held c.hear_script.new.output)
          (Receives g.E.Write.contents c.args.errors.now errors) s) g.K.TextsKey.texts _ c.hear_script.new.errors _
          c.in-Ok-hear_script.status _ c.in-Ok.ensures.text c.in-Ok-hear_script.ensures.value c.end.ensures.value;
    }
