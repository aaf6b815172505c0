-- An event arrives at both gateways, or only at the first one.
use Rattle.std.proofs.Common.{◌≡◌, ℕ, Bool, true, false, List, [], map, refl, sym, subst}
use Rattle.mg_engine.specs.declared.taken.Taken.{Taken}
use Rattle.mg_words.specs.Leads.{Leads}
use Rattle.mg_words.specs.declared.peer.Peer.{Peer}
use Rattle.mg_core.specs.declared.event.Event.{Event}
use Rattle.mg_core.specs.declared.event.Event.TheVariants.{Control, Media, Tick}
use Rattle.mg_core.specs.declared.state.CoreState.{CoreState}
use Rattle.mg_core.specs.Step.{Packet, Sent, Step}
use Rattle.mg_core.specs.World.{TakesMedia, World, packets_of, world_after_tick}
use Rattle.mg_core.specs.aids.Stands.{StandsFor}
use Rattle.mg_audible.specs.Without.{StepUnless, StepWithout, is_port_of, is_speech_of}
use Rattle.mg_audible.specs.aids.Keeping.{LeadsBoth}

pub both_take : (talker : ℕ) (event : Event) (v w next other : World) (s t : List Sent) →
    is_speech_of v.gateway talker event ≡ false → Step v event s next → Step w event t other →
    StepWithout talker v w event next other
both_take talker event v w next other s t e step also = (
  (s, step),
  subst (λ (b : Bool). StepUnless b w event other) (sym e) (t, also),
)

pub first_takes : (talker : ℕ) (event : Event) (v w next : World) (s : List Sent) →
    is_speech_of v.gateway talker event ≡ true → Step v event s next → StepWithout talker v w event next w
first_takes talker event v w next s e step = (
  (s, step),
  subst (λ (b : Bool). StepUnless b w event w) (sym e) refl,
)

pub both_tick : (talker : ℕ) (v w : World) →
    StepWithout talker v w Tick (world_after_tick v) (world_after_tick w)
both_tick talker v w = (
  (map Packet (packets_of v), (refl, refl)),
  (map Packet (packets_of w), (refl, refl)),
)

-- ## Steps of the two cores

abbrev TakesAt : ℕ → Peer → List ℕ → Taken → World → World → Type 0
TakesAt port source bytes taken w next = TakesMedia w port source bytes next taken

pub leads_media : (talker port : ℕ) (source : Peer) (bytes : List ℕ) (first second : Taken)
    (whole without whole_after without_after : CoreState) →
    ((v : World) → StandsFor whole v → is_port_of v.gateway talker port ≡ false) →
    Leads StandsFor whole whole_after (TakesAt port source bytes first) →
    Leads StandsFor without without_after (TakesAt port source bytes second) →
    LeadsBoth talker (Media port source bytes) whole without whole_after without_after
leads_media talker port source bytes first second whole without whole_after without_after other one two v w h =
    let (next, takes, stands) = one v h.whole in
    let (also, takes_too, stands_too) = two w h.without in (
      next,
      also,
      both_take talker (Media port source bytes) v w next also [] [] (other v h.whole) (first, takes, refl)
          (second, takes_too, refl),
      record { whole = stands; without = stands_too },
    )

pub leads_speech : (talker port : ℕ) (source : Peer) (bytes : List ℕ) (first : Taken)
    (whole without whole_after : CoreState) →
    ((v : World) → StandsFor whole v → is_port_of v.gateway talker port ≡ true) →
    Leads StandsFor whole whole_after (TakesAt port source bytes first) →
    LeadsBoth talker (Media port source bytes) whole without whole_after without
leads_speech talker port source bytes first whole without whole_after speech one v w h =
    let (next, takes, stands) = one v h.whole in (
      next,
      w,
      first_takes talker (Media port source bytes) v w next [] (speech v h.whole) (first, takes, refl),
      record { whole = stands; without = h.without },
    )

pub leads_control : (talker : ℕ) (source : Peer) (bytes : List ℕ) (s t : List Sent)
    (whole without whole_after without_after : CoreState) →
    Leads StandsFor whole whole_after (λ w next. Step w (Control source bytes) s next) →
    Leads StandsFor without without_after (λ w next. Step w (Control source bytes) t next) →
    LeadsBoth talker (Control source bytes) whole without whole_after without_after
leads_control talker source bytes s t whole without whole_after without_after one two v w h =
    let (next, step, stands) = one v h.whole in
    let (also, step_too, stands_too) = two w h.without in (
      next,
      also,
      both_take talker (Control source bytes) v w next also s t refl step step_too,
      record { whole = stands; without = stands_too },
    )
