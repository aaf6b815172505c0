-- One more event after a list of events.
use Rattle.std.proofs.Common.{◌∷◌, [], List, refl, sym}
use Rattle.std.proofs.lemmas.List.{append-nil}
use Rattle.mg_words.specs.Leads.{Leads}
use Rattle.mg_core.specs.declared.event.Event.{Event}
use Rattle.mg_core.specs.declared.state.CoreState.{CoreState}
use Rattle.mg_core.specs.Headline.{ExtendsHistory}
use Rattle.mg_core.specs.Step.{Sent, Step, Run}
use Rattle.mg_core.specs.World.{World}
use Rattle.mg_core.specs.aids.Stands.{StandsFor}
use Rattle.mg_core.proofs.RunLemmas.{run_both}

pub one_event : (w v : World) (event : Event) (sent : List Sent) → Step w event sent v → Run w (event ∷ []) sent v
one_event w v event sent step = (sent, [], v, step, (refl, refl), sym (append-nil sent))

-- If each represented world can take the step of an event, each history can be extended by this event.
pub continues : (old new : CoreState) (event : Event) (sent : List Sent) →
    Leads StandsFor old new (λ w next. Step w event sent next) → ExtendsHistory old new event sent
continues old new event sent leads base events before w (run, stands) =
    let (next, step, left) = leads w stands in (
      next,
      (
        run_both base w next events (event ∷ []) before sent run (one_event w next event sent step),
        left,
      ),
    )
