-- The content of a script's lines: events, and comments between them.
use Rattle.std.specs.Prelude.{◌≡◌, ℕ, List, [], ◌∷◌, Option, Some, None}
use Rattle.std.specs.Option.{option_map}
use Rattle.mg_words.specs.OptionSteps.{◌>>=◌}
use Rattle.mg_core.specs.declared.event.Event.{Event}
use Rattle.mg_core.specs.Script.{event_of, events_of}

-- A note: a comment or an empty line, without its line end; or an event.
pub data Note : Type 0 where
  Comment : (line : List ℕ) → Note
  Happened : (event : Event) → Note

-- The note of a line with this event, or of a line without an event.
abbrev pub noted : List ℕ → Option Event → Note
noted line None = Comment line
noted line (Some event) = Happened event

-- The note of a line, unless the line is bad.
abbrev pub note_of : List ℕ → Option Note
note_of line = option_map (noted line) (event_of line)

-- The notes of lines, in order, unless a line is bad.
unfoldable pub notes_of : List (List ℕ) → Option (List Note)
notes_of [] = Some []
notes_of (line ∷ lines) = do
  note ← note_of line
  notes ← notes_of lines
  Some (note ∷ notes)

-- The events without the comments.
abbrev pub events_in : List Note → List Event
events_in [] = []
events_in (Comment line ∷ notes) = events_in notes
events_in (Happened event ∷ notes) = event ∷ events_in notes

-- The notes of lines contain the events of these lines, and there are no notes if a line is bad.
abbrev pub NotesHaveEvents : Type 0
NotesHaveEvents = (lines : List (List ℕ)) → option_map events_in (notes_of lines) ≡ events_of lines
