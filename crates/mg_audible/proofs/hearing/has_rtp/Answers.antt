use Rattle.std.proofs.Common.{ap, arith}
use Rattle.mg_core.specs.declared.counts.Counts.{Counts}
use Rattle.mg_core.specs.Note.{events_in}
use Rattle.mg_audible.proofs.ReportLemmas.{has_media}
use Rattle.mg_audible.proofs.hearing.has_rtp.Goals as goal

pub returns : goal.returns
returns c = record {
  value = λ base notes is none (sent, w, (run, stands)).
      let counted = c.events_are_counted.ensures.theorem base (events_in notes) sent w is.results run in
      has_media (events_in notes) w.tally.media c.counts.result.media (omega (arith, counted.media, none)) (ap (λ (x : Counts). x.media) (c.counts.ensures.value w stands));
}
