-- Statements about the intervals in which a talker is audible, and about the ticks in which a listener is sent
-- different bytes.
use Rattle.std.specs.Prelude.{◌≡◌, ◌↔◌, ℕ, ◌==◌, ◌&&◌, ◌||◌, Bool, true, List, ◌∷◌, ◌++◌}
use Rattle.std.specs.Prelude.{count_by, Any}
use Rattle.mg_engine.specs.Flow.{flow}
use Rattle.mg_engine.specs.Gateway.{Gateway}
use Rattle.mg_engine.specs.Isolation.{hears_itself}
use Rattle.mg_core.specs.declared.event.Event.{Event}
use Rattle.mg_core.specs.declared.event.Event.TheVariants.{Tick}
use Rattle.mg_core.specs.Counting.{is_tick}
use Rattle.mg_core.specs.Base.{IsBase}
use Rattle.mg_core.specs.Step.{Sent, Run}
use Rattle.mg_core.specs.World.{World}
use Rattle.mg_heard.specs.declared.open_flow.OpenFlow.{OpenFlow}
use Rattle.mg_heard.specs.Intervals.{Interval}
use Rattle.mg_heard.specs.Laws.{IsToldAt}
use Rattle.mg_audible.specs.Audible.{RunsWithout, is_sent_other}

-- ## Ticks in which the bytes differ

-- Two gateways that began with this world have received these events, but the second gateway has not received the
-- talker's speech. In the next tick, they send different bytes to this listener.
abbrev pub Differs : World → (talker listener : ℕ) → (past : List Event) → Type 0
Differs base talker listener past =
    (moments : List (List OpenFlow)) × (whole : World) × (without : World)
    × RunsWithout talker base base past moments whole without
    × Any (λ r. (r.number ≡ listener) × (is_sent_other whole without r ≡ true))
    whole.gateway.rooms.terminations

-- Some interval of a listener contains a tick if and only if the two gateways send the listener different bytes in that
-- tick.
abbrev pub TellsDifferences : World → ℕ → List Event → List Interval → Type 0
TellsDifferences base talker events ys =
    (past later : List Event) (listener : ℕ) → events ≡ past ++ Tick ∷ later
    → IsToldAt (count_by is_tick past) talker listener ys
    ↔ Differs base talker listener past

-- ## Differences are speech

-- The talker's speech flows to the listener, or the listener is the talker, in Loopback.
abbrev pub reaches : Gateway → ℕ → ℕ → Bool
reaches w talker listener =
    flow w talker listener || ((talker == listener) && hears_itself w listener)

-- If the two gateways send a listener different bytes in a tick, the talker's speech reaches the listener in the world
-- before that tick.
abbrev pub DifferencesAreSpeech : Type 0
DifferencesAreSpeech =
    (base : World) (talker listener : ℕ) (past : List Event) (sent : List Sent) (w : World)
    → IsBase base → Differs base talker listener past → Run base past sent w
    → reaches w.gateway talker listener ≡ true

-- If an interval contains a tick, the talker's speech reaches the interval's listener in the world before the tick.
abbrev pub TellsSpeech : World → ℕ → List Event → List Interval → Type 0
TellsSpeech base talker events ys =
    (past later : List Event) (listener : ℕ) (sent : List Sent) (w : World)
    → events ≡ past ++ Tick ∷ later → Run base past sent w
    → IsToldAt (count_by is_tick past) talker listener ys
    → reaches w.gateway talker listener ≡ true
