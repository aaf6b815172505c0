-- The state of a watch while a script runs.
use Rattle.std.specs.Prelude.{◌≡◌, ◌&&◌, ℕ, Bool, false, List, ◌∷◌, find, length, reverse, Option, None}
use Rattle.std.specs.Option.{option_map}
use Rattle.mg_core.specs.Note.{Note, events_in}
use Rattle.mg_core.specs.World.{World}
use Rattle.mg_heard.specs.declared.open_flow.OpenFlow.{OpenFlow}
use Rattle.mg_heard.specs.declared.rule.Rule.{Rule}
use Rattle.mg_heard.specs.declared.violation.Violation.{Violation}
use Rattle.mg_heard.specs.Moments.{AreMoments}
use Rattle.mg_heard.specs.Query.{is_asked}
use Rattle.mg_heard.specs.Never.{first_forbidden, is_forbidden, without_date}

abbrev pub forbids : Rule → OpenFlow → Bool
forbids rule x =
    is_asked rule.talker x.talker x.talker_at && is_asked rule.listener x.listener x.listener_at

-- The first forbidden flow among the open flows of a moment.
abbrev pub forbidden_in : List Rule → List OpenFlow → Option OpenFlow
forbidden_in rules flows = find (is_forbidden rules) flows

-- The first forbidden flow of the moment before this tick, with the tick.
abbrev pub forbidden_at : ℕ → List Rule → List OpenFlow → Option (ℕ × OpenFlow)
forbidden_at tick rules flows = option_map (λ x. (tick, x)) (forbidden_in rules flows)

-- After these notes, a watch has the first violation in the moments that are over. If there is none
-- and nothing can have changed since then, no rule is broken now.
pub record KeepsRules (rules : List Rule) (base : World) (notes : List Note) (tick : ℕ)
    (is_changed : Bool) (violation : Option Violation) : Type 0 where
  pub past : List (List OpenFlow)
  pub now : List OpenFlow
  pub are : AreMoments base (events_in notes) (reverse (now ∷ past))
  pub first : option_map without_date violation ≡ first_forbidden rules 0 (reverse past)
  pub count : violation ≡ None → tick ≡ length past
  pub same : is_changed ≡ false → violation ≡ None → forbidden_in rules now ≡ None
