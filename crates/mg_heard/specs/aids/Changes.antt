-- Cases in which the open flows need not be compared again.
use Rattle.std.specs.Prelude.{◌≡◌, ℕ, false, List, ◌∷◌, ◌++◌, replicate}
use Rattle.mg_core.specs.declared.event.Event.{Event}
use Rattle.mg_core.specs.Counting.{is_control}
use Rattle.mg_core.specs.Step.{Sent, Step}
use Rattle.mg_core.specs.World.{World}
use Rattle.mg_heard.specs.declared.open_flow.OpenFlow.{OpenFlow}
use Rattle.mg_heard.specs.Intervals.{ended, lasting}
use Rattle.mg_heard.specs.OpenFlows.{open_flows}

-- Only control datagrams change which flows are open.
abbrev pub OnlyControlChangesFlows : Type 0
OnlyControlChangesFlows =
    (w next : World) (event : Event) (sent : List Sent) → is_control event ≡ false
    → Step w event sent next → open_flows next.gateway ≡ open_flows w.gateway

-- Only control datagrams change the terminations and what a controller set for them.
abbrev pub OnlyControlChangesTerminations : Type 0
OnlyControlChangesTerminations =
    (w next : World) (event : Event) (sent : List Sent) → is_control event ≡ false
    → Step w event sent next → next.gateway.rooms ≡ w.gateway.rooms

-- Equal moments in a row end no interval, and the open intervals stay open.
abbrev pub EqualMomentsTellNothing : Type 0
EqualMomentsTellNothing =
    (flows : List OpenFlow) (past : List (List OpenFlow)) (count : ℕ)
    → (ended (replicate count flows ++ flows ∷ past) ≡ ended (flows ∷ past))
    × (lasting (replicate count flows ++ flows ∷ past) ≡ lasting (flows ∷ past))
