-- The steps of a resumption: one event, one line, and the bytes of one read.
use Rattle.std.specs.Prelude.{◌≡◌, ℕ, ◌+◌, Bool, true, false, List, [], ◌∷◌, ◌++◌, length}
use Rattle.std.specs.Prelude.{Option, Some, None, Result, Ok, Err, codes, replicate, if◌then◌else◌}
use Rattle.std.specs.List.{concat, list_any}
use Rattle.mg_lines.specs.Lines.{lines_after, without_return}
use Rattle.mg_core.specs.declared.event.Event.{Event}
use Rattle.mg_core.specs.declared.fault.LineFault.{LineFault}
use Rattle.mg_core.specs.declared.fault.LineFault.TheVariants as stops
use Rattle.mg_core.specs.declared.fault.ScriptFault.{ScriptFault}
use Rattle.mg_core.specs.declared.fault.ScriptFault.TheVariants as scripts
use Rattle.mg_core.specs.declared.state.CoreState.{CoreState}
use Rattle.mg_core.specs.Counted.{expanded, is_mark, ticks_in}
use Rattle.mg_core.specs.Follow.{HasRun, IsFollowed, ticks_of}
use Rattle.mg_core.specs.Note.{Note, Happened, notes_of}
use Rattle.mg_core.specs.aids.Resume.{FindsBadLine, IsBadAfter}
use Rattle.mg_core.specs.Script.{event_of}
use Rattle.mg_core.specs.World.{World}

-- A follower has followed these notes, if it was ready to follow a gateway when it started.
abbrev pub HasFollowed : {F : Type 0} → (F → F → World → List Note → Type 0) → F → F → World
    → List Note → Type 0
HasFollowed follows start now base notes =
    follows start start base [] → follows start now base notes

-- A gateway has run these notes, and a follower has followed them, except for the ticks at their end. This many ticks
-- are still pending.
pub record KeepsUp (base : World) (state : CoreState) (ticks : ℕ) (Follows : List Note → Type 0)
    (notes : List Note) : Type 0 where
  pub past : List Note
  pub parts : notes ≡ past ++ ticks_of ticks
  pub run : HasRun base past state
  pub follows : Follows past

-- These lines were read: a gateway has run their notes, and a follower has followed them, except for the ticks at their
-- end. `counts` says whether ticks are counted after the lines.
pub record KeepsLines (base : World) (state : CoreState) (counts : Bool) (ticks : ℕ)
    (Follows : List Note → Type 0) (lines : List (List ℕ)) : Type 0 where
  pub notes : List Note
  pub are : notes_of (expanded false lines) ≡ Some notes
  pub counted : counts ≡ list_any is_mark lines
  pub keeps : KeepsUp base state ticks Follows notes

-- The notes of these lines are known, so none of them is bad.
abbrev pub AreGood : List (List ℕ) → Type 0
AreGood lines = (notes : List Note) × (notes_of (expanded false lines) ≡ Some notes)

-- If `Old` holds for some notes or lines, `New` holds after these elements are appended to them.
abbrev pub Adds : {A : Type 0} → (Old New : List A → Type 0) → List A → Type 0
Adds {A = A} Old New more = (before : List A) → Old before → New (before ++ more)

-- The line is bad after any lines for which `Old` holds.
abbrev pub IsBadLine : (Old : List (List ℕ) → Type 0) → List ℕ → Type 0
IsBadLine Old line = (before : List (List ℕ)) → Old before → IsBadAfter before line

-- The number of ticks in a line, if ticks are counted.
abbrev pub counted_in : Bool → List ℕ → Option ℕ
counted_in counts line = if counts then ticks_in line else None

-- Lines were run: they have notes, and these notes were appended to the earlier ones.
pub record LinesResumed (Old New : List Note → Type 0) (lines : List (List ℕ)) : Type 0 where
  pub notes : List Note
  pub are : notes_of lines ≡ Some notes
  pub adds : Adds Old New notes

-- The result of a step. The step succeeded, found that the line with this number is bad, or ran out of memory. A
-- follower that may stop can also have stopped.
abbrev pub Resumes : Bool → (Done : Type 0) → (Bad : ℕ → Type 0) → Result (Unit {0}) LineFault
    → Type 0
Resumes may_stop Done Bad (Ok done) = Done
Resumes may_stop Done Bad (Err (stops.Bad number)) = Bad number
Resumes may_stop Done Bad (Err stops.Write) = may_stop ≡ true
Resumes may_stop Done Bad (Err stops.NoMemory) = Unit {0}

-- An event was run, or the step ran out of memory, or a follower stopped.
abbrev pub EventResumed : Bool → Event → (Old New : List Note → Type 0)
    → Result (Unit {0}) LineFault → Type 0
EventResumed may_stop event Old New result =
    Resumes may_stop (Adds Old New (Happened event ∷ [])) (λ bad. ⊥) result

-- A line that doesn't count ticks was run, or is bad, or the step failed as `Resumes` says. `number` is the line's
-- number.
abbrev pub LineResumed : Bool → ℕ → List ℕ → (Old New : List Note → Type 0)
    → Result (Unit {0}) LineFault → Type 0
LineResumed may_stop number line Old New result =
    Resumes may_stop (LinesResumed Old New (line ∷ []))
    (λ bad. (bad ≡ number) × (event_of line ≡ None)) result

-- A line was read, or is bad, or the step failed as `Resumes` says. `number` is the line's number.
abbrev pub LineRead : Bool → ℕ → List ℕ → (Old New : List (List ℕ) → Type 0)
    → Result (Unit {0}) LineFault → Type 0
LineRead may_stop number line Old New result =
    Resumes may_stop (Adds Old New (line ∷ []))
    (λ bad. (bad ≡ number) × IsBadLine Old line) result

-- The first line in this list is bad. Its number is `count + 1`, because `count` other lines come before it.
pub record StartsBad (Old : List (List ℕ) → Type 0) (count : ℕ) (lines : List (List ℕ)) (number : ℕ)
    : Type 0 where
  pub bad : List ℕ
  pub others : List (List ℕ)
  pub parts : lines ≡ bad ∷ others
  pub is_bad : IsBadLine Old bad
  pub number_is : number ≡ count + 1

-- A line feed ends this text as a line. The line was read, or is the first bad line, or the step failed as `Resumes`
-- says.
abbrev pub EndedResumed : Bool → ℕ → List ℕ → (Old New : List (List ℕ) → Type 0)
    → Result (Unit {0}) LineFault → Type 0
EndedResumed may_stop count text Old New result =
    Resumes may_stop (Adds Old New (without_return text ∷ []))
    (λ bad. (more : List ℕ) → StartsBad Old count (lines_after true text (10 ∷ more)) bad) result

-- The text consists of this many copies of a line, each with a line feed, and the rest.
abbrev pub IsAfterCopies : (line : List ℕ) → ℕ → (text rest : List ℕ) → Type 0
IsAfterCopies line count text rest = text ≡ concat (replicate count (line ++ 10 ∷ [])) ++ rest

-- The copies of a line at the start of some text were read.
pub record CopiesTaken (line : List ℕ) (count counted : ℕ) (text rest : List ℕ)
    (Old New : List (List ℕ) → Type 0) : Type 0 where
  pub copies : ℕ
  pub number : counted ≡ count + copies
  pub parts : IsAfterCopies line copies text rest
  pub adds : Adds Old New (replicate copies line)

-- Lines were read. They consist of a partial line and all bytes except the rest, and the next line starts with the
-- bytes in `left`.
pub record BytesRun (count counted : ℕ) (partial bytes left rest : List ℕ)
    (Old New : List (List ℕ) → Type 0) : Type 0 where
  pub lines : List (List ℕ)
  pub split : (ended : Bool) (more : List ℕ)
      → lines_after ended partial (bytes ++ more) ≡ lines ++ lines_after ended left (rest ++ more)
  pub number : counted ≡ count + length lines
  pub adds : Adds Old New lines

-- In the list `all`, a bad line follows these lines.
pub record HasBadThere (Old : List (List ℕ) → Type 0) (lines all : List (List ℕ)) : Type 0 where
  pub bad : List ℕ
  pub others : List (List ℕ)
  pub parts : all ≡ lines ++ bad ∷ others
  pub is_bad : (before : List (List ℕ)) → Old before → IsBadAfter (before ++ lines) bad

-- The line with this number is the first bad line in a partial line and the bytes after it, whatever text follows.
pub record BytesBad (Old : List (List ℕ) → Type 0) (count : ℕ) (partial bytes : List ℕ) (number : ℕ) : Type 0 where
  pub lines : List (List ℕ)
  pub bad : (more : List ℕ) → HasBadThere Old lines (lines_after true partial (bytes ++ more))
  pub number_is : number ≡ count + length lines + 1
  pub good : (before : List (List ℕ)) → Old before → AreGood (before ++ lines)

-- A partial line and the bytes after it are one text. Its complete lines were read, or one of them is the first bad
-- line. Otherwise the step failed as `Resumes` says.
abbrev pub BytesResumed : Bool → ℕ → ℕ → (partial bytes left : List ℕ)
    → (Old New : List (List ℕ) → Type 0) → Result (Unit {0}) LineFault → Type 0
BytesResumed may_stop count counted partial bytes left Old New result =
    Resumes may_stop (BytesRun count counted partial bytes left [] Old New)
    (BytesBad Old count partial bytes) result

-- At the end of the script, a non-empty partial line was read as the last line, or is bad. Otherwise the step failed as
-- `Resumes` says.
abbrev pub LastResumed : Bool → ℕ → List ℕ → (Old New : List (List ℕ) → Type 0)
    → Result (Unit {0}) LineFault → Type 0
LastResumed may_stop count partial Old New result =
    Resumes may_stop (Adds Old New (lines_after true partial []))
    (StartsBad Old count (lines_after true partial [])) result

-- The whole script was run, or the first bad line was found. Otherwise reading failed, memory ran out, or a follower
-- that may stop has stopped.
abbrev pub AllResumed : Bool → World → (input rest : Option (List ℕ)) → CoreState
    → (Follows : List Note → Type 0) → Result (Unit {0}) ScriptFault → Type 0
AllResumed may_stop base input rest state Follows (Ok done) =
    IsFollowed base input rest state Follows
AllResumed may_stop base input rest state Follows (Err (scripts.Bad number)) =
    FindsBadLine input rest number
AllResumed may_stop base input rest state Follows (Err scripts.Read) = Unit {0}
AllResumed may_stop base input rest state Follows (Err scripts.Write) = may_stop ≡ true
AllResumed may_stop base input rest state Follows (Err scripts.NoMemory) = Unit {0}
