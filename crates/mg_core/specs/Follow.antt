-- A follower sees, note by note, what a gateway does while a script is run.
use Rattle.std.specs.Prelude.{◌≡◌, ℕ, true, List, Option, Some}
use Rattle.std.specs.Prelude.{replicate}
use Rattle.mg_core.specs.Counted.{journal_lines}
use Rattle.mg_core.specs.declared.event.Event.TheVariants.{Tick}
use Rattle.mg_core.specs.declared.state.CoreState.{CoreState}
use Rattle.mg_core.specs.Headline.{HasHistory}
use Rattle.mg_core.specs.Note.{Note, Happened, events_in, notes_of}
use Rattle.mg_core.specs.Run.{HasRead}
use Rattle.mg_core.specs.Step.{Sent}
use Rattle.mg_core.specs.World.{World}

-- A gateway began with this world, the events of these notes arrived, and this is its state.
abbrev pub HasRun : World → List Note → CoreState → Type 0
HasRun base notes state =
    (sent : List Sent) × (w : World) × HasHistory base (events_in notes) sent w state

-- The notes of this many ticks.
abbrev pub ticks_of : ℕ → List Note
ticks_of count = replicate count (Happened Tick)

-- The input was read to its end, and its text is a script with some notes. The state is that of a gateway that began
-- with the world `base`, and at which the events of these notes arrived. A follower has followed all these notes.
pub record IsFollowed (base : World) (input rest : Option (List ℕ)) (state : CoreState)
    (Follows : List Note → Type 0) : Type 0 where
  pub script : List ℕ
  pub read : HasRead input rest script true
  pub notes : List Note
  pub are : notes_of (journal_lines true script) ≡ Some notes
  pub run : HasRun base notes state
  pub follows : Follows notes
