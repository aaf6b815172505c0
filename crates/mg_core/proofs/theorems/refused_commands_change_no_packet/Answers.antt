use Rattle.std.proofs.lemmas.Bool.{and_parts}
use Rattle.std.proofs.Common.{◌≡◌, ℕ, true, List, [], ◌∷◌, ◌++◌, map, sym, ap, subst, ◌∙◌}
use Rattle.std.specs.List.{list_all}
use Rattle.mg_engine.specs.declared.taken.Taken.{Taken}
use Rattle.mg_engine.specs.Arrival.{Takes}
use Rattle.mg_engine.specs.Gateway as engine
use Rattle.mg_engine.specs.Tick.{after_tick, sent_in_tick}
use Rattle.mg_core.specs.declared.event.Event.{Event}
use Rattle.mg_core.specs.declared.event.Event.TheVariants.{Control, Media, Tick}
use Rattle.mg_core.specs.Headline.{is_of_media}
use Rattle.mg_core.specs.Step.{Sent, Packet, Step, Run}
use Rattle.mg_core.specs.World.{World}
use Rattle.mg_core.proofs.theorems.refused_commands_change_no_packet.Goals as goal

abbrev OneArrival : Type 0
OneArrival = (w : engine.Gateway) (port : ℕ) (source list : List ℕ) (x y : engine.Gateway) (a b : Taken) →
    Takes w port source list x a → Takes w port source list y b → (x ≡ y) × (a ≡ b)

abbrev TakesIn : ℕ → List ℕ → List ℕ → engine.Gateway → Taken → engine.Gateway → Type 0
TakesIn port source bytes next taken g = Takes g port source bytes next taken

module _ (arrives : OneArrival) where
  one_step : (event : Event) (a b : World) (s t : List Sent) (x y : World) → a.gateway ≡ b.gateway →
      is_of_media event ≡ true → Step a event s x → Step b event t y → (s ≡ t) × (x.gateway ≡ y.gateway)
  one_step (Control source bytes) a b s t x y same none h k = absurd (cc none)
  one_step (Media port source bytes) a b s t x y same of (taken, (g, takes, is), sent) (other, (k, too, its), also) =
      let one = arrives b.gateway port source.address bytes g k taken other
      (subst (TakesIn port source.address bytes g taken) same takes) too in
      (sent ∙ sym also, ap (λ (w : World). w.gateway) is ∙ one.0 ∙ sym (ap (λ (w : World). w.gateway) its))
  one_step Tick a b s t x y same of h k = (
    h.0 ∙ ap (λ (g : engine.Gateway). map Packet (sent_in_tick g)) same ∙ sym k.0,
    ap (λ (w : World). w.gateway) h.1 ∙ ap after_tick same ∙ sym (ap (λ (w : World). w.gateway) k.1),
  )

  one_run : (events : List Event) (a b : World) (s t : List Sent) (x y : World) → a.gateway ≡ b.gateway →
      list_all is_of_media events ≡ true → Run a events s x → Run b events t y → (s ≡ t) × (x.gateway ≡ y.gateway)
  one_run [] a b s t x y same of h k = (
    h.0 ∙ sym k.0,
    ap (λ (w : World). w.gateway) h.1 ∙ same ∙
        sym (ap (λ (w : World). w.gateway) k.1),
  )
  one_run (e ∷ es) a b s t x y same of (first, others, next, step, run, is) (second, rest, also, too, runs, its) =
      let now = one_step e a b first second next also same (and_parts (is_of_media e) (list_all is_of_media es) of).0
      step too in
      let later = one_run es next also others rest x y now.1 (and_parts (is_of_media e) (list_all is_of_media es) of).1
      run runs in
      (is ∙ ap (λ (l : List Sent). l ++ others) now.0 ∙ ap (λ (l : List Sent). second ++ l) later.0 ∙ sym its, later.1)

pub returns : goal.returns
returns c = record {
  theorem = λ a b events s t x y same of h k. one_run c.one_arrival.ensures.at_most_one events a b s t
      x y same of h k;
}
