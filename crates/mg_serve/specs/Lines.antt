-- The lines that drive a gateway.
use Rattle.std.specs.Prelude.{◌≡◌, ℕ, Bool, true, false, List, [], ◌∷◌, ◌++◌, codes, if◌then◌else◌}
use Rattle.std.specs.Str.{bytes_eq}
use Rattle.mg_serve.specs.declared.command.Command.{Command}
use Rattle.mg_serve.specs.declared.command.Command.TheVariants.{Poll, Tick, Stats, Quit, Unknown}
use Rattle.mg_clock.specs.declared.timing.Timing.TheVariants.{OnTime}
use Rattle.mg_serve.specs.declared.form.Form.{Form}
use Rattle.mg_serve.specs.declared.form.Form.TheVariants.{Plain, Recording}

-- The command that a line's text denotes. The writer of the lines keeps the time, so no tick is late.
abbrev pub line_command : List ℕ → Command
line_command line =
    if bytes_eq line (codes "poll") then Poll
    else (if bytes_eq line (codes "tick") then Tick OnTime
    else (if bytes_eq line (codes "stats") then Stats
    else (if bytes_eq line (codes "quit") then Quit else Unknown)))

abbrev pub is_recording : Form → Bool
is_recording Plain = false
is_recording Recording = true

abbrev pub is_quit : Command → Bool
is_quit Quit = true
is_quit _ = false

-- Whether something can be printed for a command: a line in reply, or its events in a recording.
abbrev pub prints : Form → Command → Bool
prints form Stats = true
prints form Quit = false
prints form Unknown = true
prints form command = is_recording form

-- Something can be printed for the last command in the list.
pub record LastPrints (form : Form) (commands : List Command) : Type 0 where
  pub front : List Command
  pub command : Command
  pub is : commands ≡ front ++ command ∷ []
  pub printed : prints form command ≡ true

-- The lines before the first `quit`.
unfoldable pub before_quit : List (List ℕ) → List (List ℕ)
before_quit [] = []
before_quit (line ∷ lines) =
    if is_quit (line_command line) then [] else line ∷ before_quit lines
