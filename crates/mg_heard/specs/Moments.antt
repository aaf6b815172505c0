-- The moments of a history: the flows that are open before each tick. Ticks are numbered from 0.
use Rattle.std.specs.Prelude.{◌≡◌, List, [], ◌∷◌, if◌then◌else◌}
use Rattle.mg_core.specs.Counting.{is_tick}
use Rattle.mg_core.specs.declared.event.Event.{Event}
use Rattle.mg_core.specs.Step.{Sent, Step}
use Rattle.mg_core.specs.World.{World}
use Rattle.mg_heard.specs.declared.open_flow.OpenFlow.{OpenFlow}
use Rattle.mg_heard.specs.OpenFlows.{open_flows}

-- The moments of events that run one after another from the world `w`: the flows that are open before each tick, and
-- finally the flows that are open before the next tick.
abbrev pub AreMoments : World → List Event → List (List OpenFlow) → Type 0
AreMoments w [] moments = moments ≡ open_flows w.gateway ∷ []
AreMoments w (event ∷ events) moments =
    (sent : List Sent) × (next : World) × (others : List (List OpenFlow))
    × Step w event sent next × AreMoments next events others
    × (moments ≡ if is_tick event then open_flows w.gateway ∷ others else others)
