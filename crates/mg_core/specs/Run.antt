-- The output of running a script.
use Rattle.std.specs.Prelude.{◌≡◌, ◌⊎◌, ℕ, ◌+◌, ◌≤◌, Bool, true, false, List, [], ◌∷◌, ◌++◌}
use Rattle.std.specs.Prelude.{length, flat_map, Option, Some, None, Result, Ok, Err, codes}
use Rattle.std.specs.Prelude.{decimal}
use Rattle.std.specs.Io.KnownBytes.{Appends, Consumes, IsAtEnd}
use Rattle.hex.specs.Hex.{encode_lower}
use Rattle.mg_engine.specs.declared.datagram.Datagram.{Datagram}
use Rattle.mg_words.specs.declared.peer.Peer.{Peer}
use Rattle.mg_core.specs.declared.counts.Counts.{Counts}
use Rattle.mg_core.specs.declared.event.Event.{Event}
use Rattle.mg_core.specs.declared.fault.RunFault.{RunFault}
use Rattle.mg_core.specs.declared.fault.RunFault.TheVariants as faults
use Rattle.mg_core.specs.declared.shown.Shown.{Shown}
use Rattle.mg_core.specs.declared.shown.Shown.TheVariants as shows
use Rattle.mg_core.specs.World.{World, capped, counts_of}
use Rattle.mg_core.specs.Peer.{peer_text}
use Rattle.mg_core.specs.Step.{Sent, Reply, Packet, Step, Run}
use Rattle.mg_core.specs.Flows.{changes_by}
use Rattle.mg_lines.specs.Lines.{lines_of}
use Rattle.mg_lines.specs.Streams.{WritesFront}
use Rattle.mg_core.specs.Script.{event_of, events_of, escaped}

-- ## Lines of the output

-- The line for an answer to a peer.
abbrev pub answer_line : Peer → List ℕ → List ℕ
answer_line peer text =
    codes "say " ++ (peer_text peer ++ (codes " " ++ (escaped text ++ codes "\n")))

-- The line for a packet, with its bytes in lower-case hexadecimal.
abbrev pub packet_line : Datagram → List ℕ
packet_line d =
    codes "rtp " ++ (decimal d.from ++
    (codes " " ++ (peer_text d.to ++ (codes " " ++ (encode_lower d.bytes ++ codes "\n")))))

abbrev pub line_of : Sent → List ℕ
line_of (Reply to text) = answer_line to text
line_of (Packet d) = packet_line d

abbrev pub lines_for : List Sent → List ℕ
lines_for sent = flat_map line_of sent

-- Events run one after another, each in the world that the previous one left. For each event, the
-- lines for the datagrams sent are written, followed by the lines for what the event changed.
abbrev pub ReportsChanges : World → List Event → List ℕ → World → Type 0
ReportsChanges w [] text last = (text ≡ []) × (last ≡ w)
ReportsChanges w (event ∷ events) text last =
    (sent : List Sent) × (others : List ℕ) × (next : World)
    × Step w event sent next × ReportsChanges next events others last
    × (text ≡ lines_for sent ++ (changes_by w next ++ others))

-- In this form of output, the text is written for these events, which send these datagrams.
abbrev pub IsShownText : Shown → World → List Event → List Sent → List ℕ → World → Type 0
IsShownText shows.Sent w events sent text last = text ≡ lines_for sent
IsShownText shows.SentAndFlows w events sent text last = ReportsChanges w events text last

-- In each form of output, a world and the events that run in it determine the text.
abbrev pub TextIsDetermined : Type 0
TextIsDetermined =
    (shown : Shown) (w x y : World) (events : List Event) (s t : List Sent) (a b : List ℕ)
    → Run w events s x → Run w events t y
    → IsShownText shown w events s a x → IsShownText shown w events t b y → a ≡ b

-- ## Lines of the input

-- Lines were run, starting in the world `w`. Their events send these datagrams and lead to the last world, and their
-- text was written.
pub record Ran (shown : Shown) (w : World) (lines : List (List ℕ)) (last : World)
    (old new : Option (List ℕ)) : Type 0 where
  pub events : List Event
  pub sent : List Sent
  pub text : List ℕ
  pub are : events_of lines ≡ Some events
  pub run : Run w events sent last
  pub is_text : IsShownText shown w events sent text last
  pub written : Appends old new text

-- ## How far a script was read

-- This text was read from an input. If `ended`, the input has no more bytes.
pub record HasRead (input rest : Option (List ℕ)) (text : List ℕ) (ended : Bool) : Type 0 where
  pub consumed : Consumes input rest text
  pub at_end : ended ≡ true → IsAtEnd rest

-- These lines of the text were run before more of it was read. They are all lines that are complete before the last
-- piece that was read, and perhaps some that are completed within it. That piece is at most 4096 bytes long. If the
-- text has ended, the piece is empty.
pub record RanBeforeMore (text : List ℕ) (ended : Bool) (lines : List (List ℕ)) : Type 0 where
  pub before : List ℕ
  pub given : List ℕ
  pub parts : text ≡ before ++ given
  pub size : length given ≤ 4096
  pub end_alone : ended ≡ true → given ≡ []
  pub later : List (List ℕ)
  pub lines_are : lines ≡ lines_of false before ++ later

-- ## The result of running a script

-- The whole script was run, and its lines, its events and the datagrams sent were counted.
pub record RanToEnd (base : World) (shown : Shown) (script : List ℕ) (counts : Counts)
    (old new : Option (List ℕ)) : Type 0 where
  pub last : World
  pub ran : Ran shown base (lines_of true script) last old new
  pub lines : counts.lines ≡ length (lines_of true script)
  pub sent : counts.sent ≡ capped (length ran.sent)
  pub counted : record counts { lines = 0; sent = 0; failed = 0 } ≡ counts_of last.tally

-- A bad line follows these lines.
pub record HasBadAfter (lines all : List (List ℕ)) : Type 0 where
  pub bad : List ℕ
  pub others : List (List ℕ)
  pub parts : all ≡ lines ++ bad ∷ others
  pub is_bad : event_of bad ≡ None

-- This line follows the lines that were run.
abbrev pub IsNextLine : (text : List ℕ) → (ended : Bool) → (lines : List (List ℕ)) → List ℕ → Type 0
IsNextLine text ended lines line =
    (others : List (List ℕ)) × (lines_of ended text ≡ lines ++ line ∷ others)

-- The reason why a run stopped after these lines of the text, in the world `w`. After the output of these lines, the
-- writer had the content `held`.
abbrev pub Stops : RunFault → Shown → (text : List ℕ) → (ended : Bool) → (lines : List (List ℕ))
    → World → (held new : Option (List ℕ)) → Type 0
-- The next line has this number and is bad, whatever text may follow. No text follows if the input has ended.
Stops (faults.Script number) shown text ended lines w held new =
    (number ≡ length lines + 1) × (new ≡ held)
    × ((more : List ℕ) → (ended ≡ true → more ≡ [])
    → HasBadAfter lines (lines_of true (text ++ more)))
-- All complete lines of the text were run.
Stops faults.Read shown text ended lines w held new =
    (ended ≡ false) × (lines ≡ lines_of false text) × (new ≡ held)
-- The next line was run too, but only a proper prefix of its output was written.
Stops faults.Write shown text ended lines w held new =
    (line output : List ℕ) × (last : World) × IsNextLine text ended lines line
    × Ran shown w (line ∷ []) last (Some []) (Some output) × WritesFront output held new
-- The next line had no effect, or nothing was read.
Stops faults.NoMemory shown text ended lines w held new =
    (new ≡ held) × (((line : List ℕ) × IsNextLine text ended lines line)
    ⊎ ((text ≡ []) × (lines ≡ [])))
-- Nothing was read.
Stops faults.BadConfig shown text ended lines w held new =
    (new ≡ held) × (text ≡ []) × (lines ≡ [])

-- A run stopped at a fault. Before that, it ran these lines of the text completely.
pub record RanToFault (base : World) (shown : Shown) (input rest old new : Option (List ℕ))
    (fault : RunFault) : Type 0 where
  pub text : List ℕ
  pub ended : Bool
  pub read : HasRead input rest text ended
  pub lines : List (List ℕ)
  pub before_more : RanBeforeMore text ended lines
  pub now : World
  pub held : Option (List ℕ)
  pub ran : Ran shown base lines now old held
  pub stops : Stops fault shown text ended lines now held new

-- The result of a run: how far the input was read, the lines that were run, and the text that was written for them.
abbrev pub ScriptRan : (base : World) → Shown → (input rest old new : Option (List ℕ))
    → Result Counts RunFault → Type 0
ScriptRan base shown input rest old new (Ok counts) =
    (script : List ℕ) × HasRead input rest script true
    × RanToEnd base shown script counts old new
ScriptRan base shown input rest old new (Err fault) =
    RanToFault base shown input rest old new fault
