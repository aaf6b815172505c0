-- Resuming a gateway from a script.
use Rattle.std.specs.Prelude.{◌≡◌, ℕ, ◌+◌, Bool, true, false, List, [], ◌∷◌, ◌++◌, length, Option, Some, None}
use Rattle.mg_lines.specs.Lines.{lines_of}
use Rattle.mg_core.specs.declared.event.Event.{Event}
use Rattle.mg_core.specs.declared.state.CoreState.{CoreState}
use Rattle.mg_core.specs.Counted.{expanded, journal_lines}
use Rattle.mg_core.specs.Headline.{HasHistory}
use Rattle.mg_core.specs.Run.{HasRead}
use Rattle.mg_core.specs.Script.{events_of}
use Rattle.mg_core.specs.Step.{Sent}
use Rattle.mg_core.specs.World.{World}

-- The input was read to its end. Its text is a script of some events, and the state is that of a gateway that began
-- with the world `base`, and at which these events arrived.
pub record IsResumed (base : World) (input rest : Option (List ℕ)) (state : CoreState) : Type 0 where
  pub script : List ℕ
  pub read : HasRead input rest script true
  pub events : List Event
  pub are : events_of (journal_lines true script) ≡ Some events
  pub sent : List Sent
  pub world : World
  pub history : HasHistory base events sent world state

-- This line is bad after these lines.
abbrev pub IsBadAfter : List (List ℕ) → List ℕ → Type 0
IsBadAfter lines bad = events_of (expanded false (lines ++ bad ∷ [])) ≡ None

-- A bad line follows these lines.
pub record HasBadLine (lines all : List (List ℕ)) : Type 0 where
  pub bad : List ℕ
  pub others : List (List ℕ)
  pub parts : all ≡ lines ++ bad ∷ others
  pub is_bad : IsBadAfter lines bad

-- The line with this number is the first bad line of the text that was read, whatever text may follow. No text follows
-- if the input has ended.
pub record FindsBadLine (input rest : Option (List ℕ)) (number : ℕ) : Type 0 where
  pub text : List ℕ
  pub ended : Bool
  pub read : HasRead input rest text ended
  pub lines : List (List ℕ)
  pub events : List Event
  pub are : events_of (expanded false lines) ≡ Some events
  pub number_is : number ≡ length lines + 1
  pub bad : (more : List ℕ) → (ended ≡ true → more ≡ [])
      → HasBadLine lines (lines_of true (text ++ more))
