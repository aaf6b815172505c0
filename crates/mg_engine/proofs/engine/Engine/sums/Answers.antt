use Rattle.mg_engine.proofs.Common.{Option, sym, ap, ◌∙◌, record_at, context_at, view, TerminationMedia, frame_in, Registry}
use Rattle.mg_engine.proofs.GatewayLemmas.{has_media}
use Rattle.mg_engine.proofs.TotalLemmas.{total_is}
use Rattle.mg_engine.proofs.engine.Engine.sums.Goals as goal

pub returns-clause-represented : goal.returns-clause-represented
returns-clause-represented c w h =
    let stands = rw (← c.self.view_is) at h in
    record {
      frames = λ n r found.
          let (s, there, is) = has_media (view c.self.inside) w n r stands
          (ap (λ (x : Registry). record_at x n) (sym stands.rooms) ∙ found) in
          is.frame ∙ sym (ap (λ (o : Option TerminationMedia). frame_in o) there);
      totals = λ context i x found lt. total_is c.self.inside w context i x c.self.invariant stands
          (ap (λ (y : Registry). context_at y context) (sym stands.rooms) ∙ found);
    }
