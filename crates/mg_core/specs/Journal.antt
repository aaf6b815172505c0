-- Control datagrams and ticks alone determine who could hear whom, and when. So a journal can show
-- this without RTP datagrams.
use Rattle.std.specs.Prelude.{◌≡◌, ℕ, List, [], ◌∷◌, ◌++◌}
use Rattle.mg_rooms.specs.Consistent.{IsConsistent}
use Rattle.mg_engine.specs.Flow.{flow}
use Rattle.mg_core.specs.declared.event.Event.{Event}
use Rattle.mg_core.specs.ExceptReceived.{AgreeExceptReceived, lasting}
use Rattle.mg_core.specs.Flows.{changes_by}
use Rattle.mg_core.specs.Step.{Sent, Step}
use Rattle.mg_core.specs.World.{World}

-- ## Flows

-- In two worlds that agree except for what was received, the same speech flows.
abbrev pub AgreementHasSameFlows : Type 0
AgreementHasSameFlows =
    (a b : World) (talker listener : ℕ) → AgreeExceptReceived a b
    → flow a.gateway talker listener ≡ flow b.gateway talker listener

-- ## Reports

-- Events run one after another, and the text reports the changes that each event makes. The text is that of
-- `ReportsChanges` without the lines for the datagrams that are sent.
abbrev pub ReportsOnlyChanges : World → List Event → List ℕ → World → Type 0
ReportsOnlyChanges w [] text last = (text ≡ []) × (last ≡ w)
ReportsOnlyChanges w (event ∷ events) text last =
    (sent : List Sent) × (others : List ℕ) × (next : World)
    × Step w event sent next × ReportsOnlyChanges next events others last
    × (text ≡ changes_by w next ++ others)

-- Suppose two worlds agree except for what was received, and their terminations and contexts are consistent. Then
-- events cause the same changes in both, even if only the first world receives the RTP datagrams and the oversized control
-- datagrams.
abbrev pub AgreementHasSameReports : Type 0
AgreementHasSameReports =
    (a b x y : World) (events : List Event) (s t : List ℕ)
    → IsConsistent a.gateway.rooms → AgreeExceptReceived a b
    → ReportsOnlyChanges a events s x → ReportsOnlyChanges b (lasting events) t y → s ≡ t
