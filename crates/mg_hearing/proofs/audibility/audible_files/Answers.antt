use Rattle.std.proofs.Common.{◌≡◌, ◌∷◌, List, Option, map, ℕ}
use Rattle.std.specs.Io.Buffered.{reader_remaining}
use Rattle.mg_options.specs.declared.status.Status.TheVariants.{Done}
use Rattle.mg_hearing.specs.Audible.{IsAudible}
use Rattle.mg_hearing.proofs.OpenLemmas.{answers_all}
use Rattle.mg_hearing.proofs.audibility.audible_files.Goals as goal

pub returns : goal.returns
returns g c =
    let end = c.audible_joined in
    let sources = c.args.sources in
    record {
      value = answers_all (λ (script : Option (List ℕ)). (end.result ≡ Done) × IsAudible c.args.asked.talker
          c.args.asked.question script (g.W.Write.contents c.args.output.now) (g.W.Write.contents end.new.output)
          (end.new.errors ≡ c.args.errors.now))
          (sources.file.now ∷ sources.later.now) (g.H.Tells.calls c.args.host.now) (g.H.Tells.calls c.open_joined.new.host)
          (map (reader_remaining g.H.Text.Read.remaining) c.in-Ok.opened.items) end.result c.in-Ok.ensures.opened
          (rw c.in-Ok.ensures.silent at end.ensures.value);
    }
