-- Rules that a talker must never be heard by a listener, and the first flow of a script that breaks a rule.
use Rattle.std.specs.Prelude.{◌≡◌, ◌⊎◌, ℕ, ◌+◌, ◌<◌, ◌≤◌, ◌&&◌, Bool, false, List, [], ◌∷◌, ◌++◌, length, find}
use Rattle.std.specs.Prelude.{Option, Some, None, IsSomeAnd, codes}
use Rattle.std.specs.Io.KnownBytes.{Appends}
use Rattle.std.specs.List.{AllZip, list_any}
use Rattle.std.specs.Option.{option_map, option_map_or}
use Rattle.mg_core.specs.Counted.{journal_lines}
use Rattle.mg_core.specs.Note.{Note, events_in, notes_of}
use Rattle.mg_core.specs.Run.{HasRead}
use Rattle.mg_core.specs.World.{World}
use Rattle.mg_heard.specs.declared.format.Format.{Format}
use Rattle.mg_heard.specs.declared.missing.Missing.{Missing}
use Rattle.mg_heard.specs.declared.open_flow.OpenFlow.{OpenFlow}
use Rattle.mg_heard.specs.declared.named.Named.{Named}
use Rattle.mg_heard.specs.declared.rule.Rule.{Rule}
use Rattle.mg_heard.specs.declared.style.Style.{Style}
use Rattle.mg_heard.specs.declared.violation.Violation.{Violation}
use Rattle.mg_heard.specs.Came.{IsMissing}
use Rattle.mg_heard.specs.Lines.{flow_text, interval_values, line_in, moment_text}
use Rattle.mg_heard.specs.Moments.{AreMoments}
use Rattle.mg_heard.specs.Query.{is_asked}

-- ## Rules

-- Whether one of the rules forbids the flow.
abbrev pub is_forbidden : List Rule → OpenFlow → Bool
is_forbidden rules x = list_any (λ rule. is_asked rule.talker x.talker x.talker_at
    && is_asked rule.listener x.listener x.listener_at) rules

-- ## Violations

-- The first forbidden flow in some moments, with its moment's tick. The moments come oldest first, and the oldest is
-- the one before the tick `from`. The flows of a moment are in order of listeners and then of talkers.
abbrev pub first_forbidden : List Rule → (from : ℕ) → List (List OpenFlow) → Option (ℕ × OpenFlow)
first_forbidden rules from [] = None
first_forbidden rules from (flows ∷ later) =
    option_map_or (λ x. Some (from, x)) (find (is_forbidden rules) flows)
    (first_forbidden rules (from + 1) later)

abbrev pub without_date : Violation → ℕ × OpenFlow
without_date v = (v.at.tick, v.flow)

-- The complete lines of this text break no rule before a tick.
pub record IsKept (rules : List Rule) (base : World) (text : List ℕ) : Type 0 where
  pub notes : List Note
  pub are : notes_of (journal_lines false text) ≡ Some notes
  pub before : List (List OpenFlow)
  pub now : List OpenFlow
  pub are_moments : AreMoments base (events_in notes) (before ++ now ∷ [])
  pub none : first_forbidden rules 0 before ≡ None

-- A script was read to its end, or until a rule was broken before one of its ticks. `found` is the first violation in
-- the moments of what was read. So if `found` is `None`, the script was read to its end, and no rule forbids a flow
-- that is open in one of its moments. A violation before a tick can only be in the last 4096 bytes that were read. For
-- each rule, `missing` says whether its talker or its listener never appeared in what was read.
pub record IsWatched (rules : List Rule) (base : World) (input rest : Option (List ℕ))
    (found : Option Violation) (missing : List Missing) : Type 0 where
  pub front : List ℕ
  pub piece : List ℕ
  pub size : length piece ≤ 4096
  pub prompt : (front ≡ []) ⊎ IsKept rules base front
  pub ended : Bool
  pub read : HasRead input rest (front ++ piece) ended
  pub notes : List Note
  pub are : notes_of (journal_lines ended (front ++ piece)) ≡ Some notes
  pub moments : List (List OpenFlow)
  pub are_moments : AreMoments base (events_in notes) moments
  pub first : option_map without_date found ≡ first_forbidden rules 0 moments
  pub missing_are : AllZip (λ rule m. IsMissing base (events_in notes) rule.talker m.talker
      × IsMissing base (events_in notes) rule.listener m.listener) rules missing
  pub before_tick : ended ≡ false → IsSomeAnd found (λ v. v.at.tick + 1 < length moments)

-- ## The line

-- The line for a violation, with this text for its date. It is a sentence, or else a row or an object of an interval
-- whose end is not known.
unfoldable pub violation_line : Format → List ℕ → List Named → Violation → List ℕ
violation_line format time names v =
    let sentence = flow_text (codes " could hear ") names v.flow
    ++ (codes " from " ++ (moment_text time v.at.tick v.at.date ++ codes "\n")) in
    line_in format sentence sentence (interval_values (codes "heard") time [] names
    (record { flow = v.flow; first = v.at; end = None }))

-- A writer has received the line of the violation, or nothing if there is no violation.
abbrev pub WritesViolation : Style → Option Violation → (old new : Option (List ℕ)) → Type 0
WritesViolation style None old new = new ≡ old
WritesViolation style (Some v) old new =
    (time : List ℕ) × Appends old new (violation_line style.format time style.names v)
