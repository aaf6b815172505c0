use Rattle.std.proofs.Common.{◌∷◌, List, Option, map, ℕ}
use Rattle.std.specs.Io.Buffered.{reader_remaining}
use Rattle.mg_hearing.specs.Absence.{Receives}
use Rattle.mg_hearing.specs.Heard.{IsHeard}
use Rattle.mg_hearing.proofs.OpenLemmas.{answers_all}
use Rattle.mg_hearing.proofs.answering.hear_files.Goals as goal

pub returns : goal.returns
returns g c =
    let end = c.hear_joined in
    let sources = c.args.sources in
    record {
      value = answers_all (λ (script : Option (List ℕ)). IsHeard c.args.asking.request.now c.args.asking.question script
          (g.W.Write.contents c.args.output.now) (g.W.Write.contents end.new.output)
          (Receives g.E.Write.contents c.args.errors.now end.new.errors) end.result)
          (sources.file.now ∷ sources.later.now) (g.H.Tells.calls c.args.host.now) (g.H.Tells.calls c.open_joined.new.host)
          (map (reader_remaining g.H.Text.Read.remaining) c.in-Ok.opened.items) end.result c.in-Ok.ensures.opened
          (rw c.in-Ok.ensures.silent at end.ensures.value);
    }
