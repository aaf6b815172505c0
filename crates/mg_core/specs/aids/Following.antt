-- Following a script until its end, or until the follower is done.
use Rattle.std.specs.Prelude.{◌≡◌, ◌⊎◌, ℕ, ◌≤◌, Bool, true, false, List, [], ◌++◌, length, Option, Some}
use Rattle.mg_core.specs.Counted.{journal_lines}
use Rattle.mg_core.specs.declared.state.CoreState.{CoreState}
use Rattle.mg_core.specs.Note.{Note, notes_of}
use Rattle.mg_core.specs.Run.{HasRead}
use Rattle.mg_core.specs.Follow.{HasRun}
use Rattle.mg_core.specs.World.{World}

-- A follower had followed the notes of all complete lines of this text, and was not done.
pub record GoesOn {F : Type 0} (done : F → Bool) (Follows : F → List Note → Type 0) (text : List ℕ)
    : Type 0 where
  pub follower : F
  pub notes : List Note
  pub are : notes_of (journal_lines false text) ≡ Some notes
  pub follows : Follows follower notes
  pub undone : done follower ≡ false

-- The input was read to its end, or until a follower was done. The complete lines of its text have some notes. The
-- state is that of a gateway that began with the world `base`, and at which the events of these notes arrived. A
-- follower has followed all these notes. At most 4096 bytes were read after the follower was last asked whether it was
-- done.
pub record IsFollowedUntil {F : Type 0} (base : World) (input rest : Option (List ℕ))
    (state : CoreState) (done : F → Bool) (Follows : F → List Note → Type 0) (last : F) : Type 0 where
  pub front : List ℕ
  pub piece : List ℕ
  pub size : length piece ≤ 4096
  pub goes_on : (front ≡ []) ⊎ GoesOn done Follows front
  pub ended : Bool
  pub read : HasRead input rest (front ++ piece) ended
  pub until : done last ≡ false → ended ≡ true
  pub notes : List Note
  pub are : notes_of (journal_lines ended (front ++ piece)) ≡ Some notes
  pub run : HasRun base notes state
  pub follows : Follows last notes
