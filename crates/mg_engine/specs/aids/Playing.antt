-- The frames that play lists play in a tick.
use Rattle.std.specs.Prelude.{◌≡◌, ℕ, ℤ, ◌<◌, ◌≤◌, Some, List, [], length, slice_index_or, IsTrue}
use Rattle.mg_playout.specs.Playout.{is_idle}
use Rattle.mg_rooms.specs.declared.record.Record.{Record}
use Rattle.mg_rooms.specs.Registry as rooms
use Rattle.mg_sums.specs.Samples.{silence}
use Rattle.mg_engine.specs.Gateway.{Gateway, TerminationMedia, media_of}
use Rattle.mg_engine.specs.aids.Media as media
use Rattle.mg_engine.specs.aids.MediaSteps as media_steps
use Rattle.mg_engine.specs.aids.Stands.{EngineState, media_at}
use Rattle.mg_engine.specs.aids.Sending.{slot_sends}

-- Each termination has had at least one tick.
abbrev pub HaveTicked : Gateway → Type 0
HaveTicked w = (n : ℕ) (s : TerminationMedia) → media_of w n ≡ Some s → 1 ≤ s.ticks

-- No slot occurs twice.
abbrev pub AreApart : List ℕ → Type 0
AreApart slots =
    (a b : ℕ) → a < length slots → b < length slots
    → slice_index_or slots a 0 ≡ slice_index_or slots b 0 → a ≡ b

-- The play list of a slot has advanced, and the frame that it played is in the slot's row.
pub record IsPlayed (old new : List media.SlotMedia) (frames : List (List ℤ)) (slot : ℕ)
    : Type 0 where
  pub ticked : media_at new slot ≡ media_steps.slot_played (media_at old slot)
  pub frame : slice_index_or frames slot [] ≡ media_steps.frame_played (media_at old slot)

-- The play list of a slot is idle, and the slot's row is silent.
pub record IsIdleSlot (kept : List media.SlotMedia) (frames : List (List ℤ)) (slot : ℕ)
    : Type 0 where
  pub idle : IsTrue (is_idle (media_at kept slot).play.phase)
  pub silent : slice_index_or frames slot [] ≡ silence

-- This many ticks were counted for a slot, and as many packets if its termination sends.
abbrev pub HasPassed : rooms.Registry → ℕ → List media.SlotMedia → List media.SlotMedia → ℕ
    → Type 0
HasPassed w count old new slot = media_at new slot
    ≡ media_steps.slot_passed (slot_sends w slot) count (media_at old slot)

-- The play list of each termination is idle, and its row is silent.
abbrev pub IsIdleEngine : EngineState → Type 0
IsIdleEngine k = (n : ℕ) (r : Record) → rooms.record_at k.rooms n ≡ Some r
    → IsIdleSlot k.media k.sums.frames r.slot
