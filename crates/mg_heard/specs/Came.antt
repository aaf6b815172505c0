-- Whether the gateway of a script ever has a termination that a question or a rule names.
use Rattle.std.specs.Prelude.{◌≡◌, ◌↔◌, ◌++◌, ◌||◌, true, Bool, List, Option, is_some, if◌then◌else◌}
use Rattle.std.specs.List.{list_any}
use Rattle.std.specs.Option.{option_map}
use Rattle.mg_engine.specs.Gateway.{Gateway}
use Rattle.mg_core.specs.declared.event.Event.{Event}
use Rattle.mg_core.specs.Step.{Run, Sent}
use Rattle.mg_core.specs.World.{World}
use Rattle.mg_heard.specs.declared.missing.Missing.{Missing}
use Rattle.mg_heard.specs.declared.party_name.PartyName.{PartyName}
use Rattle.mg_heard.specs.Query.{is_asked}

-- Whether the gateway has a termination that a question with these keys asks about.
abbrev pub has_asked : Option (List PartyName) → Gateway → Bool
has_asked keys w = list_any (λ r. is_asked keys r.number
    (option_map (λ c. record { address = c.address; port = c.port }) r.remote)) w.rooms.terminations

-- At some point during these events, the gateway has a termination that a question with these keys asks about.
abbrev pub HasCome : World → List Event → Option (List PartyName) → Type 0
HasCome base events keys = (past : List Event) × (future : List Event) × (sent : List Sent) × (w : World)
    × (events ≡ past ++ future) × Run base past sent w × (has_asked keys w.gateway ≡ true)

-- Whether a talker or a listener is missing: keys name it, but the gateway never has a termination to which a key
-- applies.
abbrev pub IsMissing : World → List Event → Option (List PartyName) → Bool → Type 0
IsMissing base events keys m = m ≡ true ↔ (is_some keys ≡ true) × ¬ HasCome base events keys

-- The answer, or `unknown` if a talker or a listener is missing.
abbrev pub unless_missing : {A : Type 0} → (unknown : A) → Missing → (answer : A) → A
unless_missing unknown missing answer = if missing.talker || missing.listener then unknown else answer
