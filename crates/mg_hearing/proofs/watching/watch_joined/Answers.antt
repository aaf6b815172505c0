use Rattle.std.proofs.Common.{List, Option, ℕ}
use Rattle.mg_hearing.specs.Absence.{Receives}
use Rattle.mg_hearing.specs.Watched.{IsAnswered}
use Rattle.mg_hearing.proofs.OpenLemmas.{ends_with}
use Rattle.mg_hearing.proofs.watching.watch_joined.Goals as goal

pub returns-in-Ok-watch_script : goal.returns-in-Ok-watch_script
returns-in-Ok-watch_script g c =
    let held = g.W.Write.contents in
    record {
      value = ends_with (λ (script : Option (List ℕ)) errors s. IsAnswered c.args.request.now c.args.alarm script
          (held c.args.output.now) (held c.watch_script.new.output)
          (Receives g.E.Write.contents c.args.errors.now errors) s) g.K.TextsKey.texts _ c.watch_script.new.errors _
          c.in-Ok-watch_script.status _ c.in-Ok.ensures.text c.in-Ok-watch_script.ensures.value c.end.ensures.value;
    }
