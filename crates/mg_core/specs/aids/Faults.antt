-- How far a run got before each fault of a script, in the form that the run's proof uses.
use Rattle.std.specs.Prelude.{◌≡◌, ℕ, ◌+◌, ◌<◌, Bool, true, false, List, [], ◌∷◌, ◌++◌, length}
use Rattle.std.specs.Prelude.{Option, Some}
use Rattle.std.specs.Io.KnownBytes.{Appends}
use Rattle.mg_core.specs.declared.event.Event.{Event}
use Rattle.mg_core.specs.declared.shown.Shown.{Shown}
use Rattle.mg_core.specs.Run.{HasBadAfter, HasRead, IsShownText, Ran, RanBeforeMore}
use Rattle.mg_core.specs.Script.{events_of}
use Rattle.mg_core.specs.Step.{Sent, Run}
use Rattle.mg_core.specs.World.{World}
use Rattle.mg_lines.specs.Lines.{lines_of}

-- Lines were run, but only a proper prefix of their text was written.
pub record RanInPart (shown : Shown) (w : World) (lines : List (List ℕ)) (last : World)
    (old new : Option (List ℕ)) : Type 0 where
  pub events : List Event
  pub sent : List Sent
  pub text : List ℕ
  pub front : List ℕ
  pub rest : List ℕ
  pub are : events_of lines ≡ Some events
  pub run : Run w events sent last
  pub is_text : IsShownText shown w events sent text last
  pub parts : text ≡ front ++ rest
  pub cut : 0 < length rest
  pub written : Appends old new front

-- The first bad line has this number, and the lines before it were run. The line is bad, whatever text may follow the
-- text that was read. No text follows if the input has ended.
pub record RanToBadLine (base : World) (shown : Shown) (input rest : Option (List ℕ))
    (number : ℕ) (old new : Option (List ℕ)) : Type 0 where
  pub text : List ℕ
  pub ended : Bool
  pub read : HasRead input rest text ended
  pub lines : List (List ℕ)
  pub before_more : RanBeforeMore text ended lines
  pub bad : (more : List ℕ) → (ended ≡ true → more ≡ [])
      → HasBadAfter lines (lines_of true (text ++ more))
  pub number_is : number ≡ length lines + 1
  pub last : World
  pub ran : Ran shown base lines last old new

-- In the text that was read, the complete lines were run, and no other lines.
pub record RanAllRead (base : World) (shown : Shown) (input rest old new : Option (List ℕ))
    : Type 0 where
  pub text : List ℕ
  pub read : HasRead input rest text false
  pub last : World
  pub ran : Ran shown base (lines_of false text) last old new

-- In the text that was read, the lines before this line were run, and led to this world.
pub record RanUpTo (base : World) (shown : Shown) (input rest : Option (List ℕ))
    (line : List ℕ) (now : World) (old new : Option (List ℕ)) : Type 0 where
  pub text : List ℕ
  pub ended : Bool
  pub read : HasRead input rest text ended
  pub lines : List (List ℕ)
  pub before_more : RanBeforeMore text ended lines
  pub others : List (List ℕ)
  pub line_is : lines_of ended text ≡ lines ++ line ∷ others
  pub ran : Ran shown base lines now old new

-- A line and all lines before it were run, but the output of this line was written only in part.
pub record RanToCutLine (base : World) (shown : Shown) (input rest old new : Option (List ℕ))
    : Type 0 where
  pub line : List ℕ
  pub now : World
  pub held : Option (List ℕ)
  pub up_to : RanUpTo base shown input rest line now old held
  pub last : World
  pub cut : RanInPart shown now (line ∷ []) last held new

-- A line had no effect, and all lines before it were run.
pub record RanToUnrunLine (base : World) (shown : Shown) (input rest old new : Option (List ℕ))
    : Type 0 where
  pub line : List ℕ
  pub now : World
  pub up_to : RanUpTo base shown input rest line now old new
