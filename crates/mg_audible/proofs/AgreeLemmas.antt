-- The two gateways agree, except for the talker's termination.
use Rattle.std.proofs.Common.{◌≡◌, ℕ, eqb, ◌||◌, eq-eqb, eqb-true, Bool, true, false, List, [], ◌∷◌, Option, Some, None, refl, sym, ap, subst}
use Rattle.std.specs.Option.{option_map_or}
use Rattle.std.proofs.lemmas.Bool.{false≢true}
use Rattle.mg_rooms.specs.declared.record.Record.{Record}
use Rattle.mg_words.specs.declared.peer.Peer.{Peer}
use Rattle.mg_engine.specs.Apart.{IsPortAmong}
use Rattle.mg_engine.specs.Arrival.{at_port}
use Rattle.mg_engine.specs.Gateway.{Gateway}
use Rattle.mg_core.specs.declared.event.Event.{Event}
use Rattle.mg_core.specs.declared.event.Event.TheVariants.{Control, Media, Tick}
use Rattle.mg_core.specs.Apart.{AgreeOutside, Both, FirstOnly, NextTickIsSame, UnheardChangesNothing}
use Rattle.mg_core.specs.Step.{Sent, Step}
use Rattle.mg_core.specs.World.{World}
use Rattle.mg_core.proofs.HeadlineLemmas.{one_event}
use Rattle.mg_heard.specs.declared.open_flow.OpenFlow.{OpenFlow}
use Rattle.mg_audible.specs.Audible.{RunsWithout}
use Rattle.mg_audible.specs.Without.{StepUnless, StepWithout, is_port_of}

-- The list with only the talker.
abbrev pub alone : ℕ → List ℕ
alone talker = talker ∷ []

among_at : (w : Gateway) (talker port : ℕ) (o : Option Record) → at_port w.rooms port ≡ o →
    option_map_or (λ r. eqb r.number talker) o false ≡ true → IsPortAmong (alone talker) w port
among_at w talker port None e h = absurd (false≢true h)
among_at w talker port (Some r) e h = (
  r,
  e,
  ap (λ (b : Bool). b || false) (eq-eqb talker r.number (sym (eqb-true r.number talker h))),
)

among : (w : Gateway) (talker port : ℕ) → is_port_of w talker port ≡ true → IsPortAmong (alone talker) w port
among w talker port h = among_at w talker port (at_port w.rooms port) refl h

module _ (unheard : UnheardChangesNothing) (talker : ℕ) where
  -- If an event arrives at both gateways, the gateways still agree outside the talker.
  both_agree : (a b x y : World) (event : Event) (s t : List Sent) → AgreeOutside (alone talker) a b →
      Step a event s x → Step b event t y → AgreeOutside (alone talker) x y
  both_agree a b x y event s t h step also = (unheard (alone talker) 0 a b x y (Both event ∷ []) s t h
      (λ sent next happens. tt) (one_event a x event s step) (one_event b y event t also)).0

  -- An RTP datagram arrives at both gateways, or only at the first one if it is speech of the talker. Then the gateways
  -- still agree outside the talker.
  media_agree : (a b x y : World) (port : ℕ) (source : Peer) (bytes : List ℕ) (s : List Sent) (is_speech : Bool) →
      is_port_of a.gateway talker port ≡ is_speech → AgreeOutside (alone talker) a b →
      Step a (Media port source bytes) s x → StepUnless is_speech b (Media port source bytes) y →
      AgreeOutside (alone talker) x y
  media_agree a b x y port source bytes s true e h step same =
      (unheard (alone talker) 0 a b x y (FirstOnly port source bytes ∷ []) s [] h
      (among a.gateway talker port e, λ sent next happens. tt) (one_event a x (Media port source bytes) s step)
      (refl, same)).0
  media_agree a b x y port source bytes s false e h step (t, also) =
      both_agree a b x y (Media port source bytes) s t h step also

  step_agrees : (a b x y : World) (event : Event) → AgreeOutside (alone talker) a b →
      StepWithout talker a b event x y → AgreeOutside (alone talker) x y
  step_agrees a b x y (Control source bytes) h ((s, step), (t, also)) =
      both_agree a b x y (Control source bytes) s t h step also
  step_agrees a b x y (Media port source bytes) h ((s, step), other) =
      media_agree a b x y port source bytes s (is_port_of a.gateway talker port) refl h step other
  step_agrees a b x y Tick h ((s, step), (t, also)) = both_agree a b x y Tick s t h step also

  run_agrees : (a b v w : World) (events : List Event) (moments : List (List OpenFlow)) →
      AgreeOutside (alone talker) a b → RunsWithout talker a b events moments v w → AgreeOutside (alone talker) v w
  run_agrees a b v w [] moments h (none, is, also) =
      subst (λ (x : World). AgreeOutside (alone talker) x w) (sym is)
      (subst (λ (y : World). AgreeOutside (alone talker) a y) (sym also) h)
  run_agrees a b v w (e ∷ es) moments h (n, m, later, step, run, is) =
      run_agrees n m v w es later (step_agrees a b n m e h step) run

  itself : (w : World) → AgreeOutside (alone talker) w w
  itself w = record { gateway = record { config = refl; rooms = refl; edits = refl; media = refl }; replies = refl }

  -- In the next tick, both gateways send the same packets from the port of a termination that doesn't hear the talker.
  pub same_next : (a v w : World) (events : List Event) (moments : List (List OpenFlow)) (port : ℕ) →
      RunsWithout talker a a events moments v w → NextTickIsSame (alone talker) port v w
  same_next a v w events moments port run =
      (unheard (alone talker) port v w v w [] [] [] (run_agrees a a v w events moments (itself a) run) tt
      (refl, refl) (refl, refl)).1
