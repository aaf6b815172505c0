-- The steps of a run: one event, one line, and the bytes of one read.
use Rattle.std.specs.Prelude.{if◌then◌else◌, ◌≡◌, ℕ, ◌+◌, List, [], ◌∷◌, ◌++◌, length}
use Rattle.std.specs.Prelude.{Bool, true, false, Option, Some, None, Result, Ok, Err, OnOk}
use Rattle.std.specs.Io.KnownBytes.{Keeps, Appends}
use Rattle.mg_engine.specs.declared.fault.StartFault.{StartFault}
use Rattle.mg_engine.specs.declared.fault.StartFault.TheVariants as starts
use Rattle.mg_words.specs.declared.error_number.ErrorNumber.{ErrorNumber}
use Rattle.mg_words.specs.declared.error_number.ErrorNumber.TheVariants as numbers
use Rattle.mg_text.specs.declared.fault.ReadFault.{ReadFault}
use Rattle.mg_text.specs.declared.fault.ReadFault.TheVariants as readings
use Rattle.mg_core.specs.declared.event.Event.{Event}
use Rattle.mg_core.specs.declared.fault.EventFault.{EventFault}
use Rattle.mg_core.specs.declared.fault.EventFault.TheVariants as events
use Rattle.mg_core.specs.declared.fault.LineFault.{LineFault}
use Rattle.mg_core.specs.declared.fault.LineFault.TheVariants as stops
use Rattle.mg_core.specs.declared.fault.RunFault.{RunFault}
use Rattle.mg_core.specs.declared.fault.RunFault.TheVariants as runs
use Rattle.mg_core.specs.declared.fault.ScriptFault.{ScriptFault}
use Rattle.mg_core.specs.declared.fault.ScriptFault.TheVariants as scripts
use Rattle.mg_core.specs.declared.shown.Shown.{Shown}
use Rattle.mg_core.specs.declared.shown.Shown.TheVariants as shows
use Rattle.mg_core.specs.declared.state.CoreState.{CoreState}
use Rattle.mg_words.specs.Leads.{Leads}
use Rattle.mg_reply.specs.declared.item.Item.TheVariants as reported
use Rattle.mg_reply.specs.Reply.{Answered}
use Rattle.mg_reply.specs.aids.Width.{is_too_long}
use Rattle.mg_reply.specs.Written.{reply_text}
use Rattle.mg_core.specs.World.{World, capped}
use Rattle.mg_core.specs.aids.Stands.{StandsFor}
use Rattle.mg_lines.specs.Lines.{lines_after, lines_of}
use Rattle.mg_lines.specs.Streams.{WritesFront}
use Rattle.mg_core.specs.Flows.{Listener, listeners_of, changes_by}
use Rattle.mg_core.specs.Script.{event_of}
use Rattle.mg_core.specs.Step.{Sent, Step}
use Rattle.mg_core.specs.Run.{Ran, HasRead, HasBadAfter, lines_for}
use Rattle.mg_core.specs.aids.Faults.{RanInPart, RanToBadLine, RanAllRead, RanToCutLine}
use Rattle.mg_core.specs.aids.Faults.{RanToUnrunLine}

-- For each world that the old state represents, `f` returns the appended text and the next world. The new state
-- represents that next world.
abbrev pub TextGrows : CoreState → CoreState → List ℕ → List ℕ → (World → List ℕ × World) → Type 0
TextGrows old new before text f =
    Leads StandsFor old new (λ w next. (out : List ℕ) × (f w ≡ (out, next))
    × (text ≡ before ++ out))

-- The text that is written for a reply: the reply's own text, or an error if the reply is too long.
abbrev pub put_text : Answered → List ℕ
put_text r =
    if is_too_long r then reply_text r.number (reported.Fault numbers.ReplyTooLong ∷ [])
    else reply_text r.number r.items

-- The error with which a message is rejected, or `None` if memory ran out.
abbrev pub refusal_of : ReadFault → Option ErrorNumber
refusal_of (readings.Syntax place) = Some numbers.Syntax
refusal_of (readings.Version n) = Some numbers.Version
refusal_of readings.TooMany = Some numbers.NotServed
refusal_of readings.NoMemory = None

-- A counter after these datagrams were sent. If it reaches the largest 64-bit value, it stays there.
unfoldable pub after_sent : ℕ → List Sent → ℕ
after_sent n [] = n
after_sent n (s ∷ sent) = after_sent (capped (n + 1)) sent

-- The text that is written for an event that leads to the next world.
abbrev pub event_text : Shown → World → List Sent → World → List ℕ
event_text shows.Sent w sent next = lines_for sent
event_text shows.SentAndFlows w sent next = lines_for sent ++ changes_by w next

-- An event was run, its text was written, and the datagrams sent were counted.
pub record EventDone (shown : Shown) (event : Event) (w next : World) (n m : ℕ)
    (old new : Option (List ℕ)) : Type 0 where
  pub sent : List Sent
  pub step : Step w event sent next
  pub written : Appends old new (event_text shown w sent next)
  pub counted : m ≡ after_sent n sent

-- An event was run, and only a proper prefix of its text was written.
pub record EventCut (shown : Shown) (event : Event) (w next : World) (old new : Option (List ℕ))
    : Type 0 where
  pub sent : List Sent
  pub step : Step w event sent next
  pub written : WritesFront (event_text shown w sent next) old new

abbrev pub EventRan : Shown → Event → World → World → ℕ → ℕ → Option (List ℕ)
    → Option (List ℕ) → Result (Unit {0}) EventFault → Type 0
EventRan shown event w next n m old new (Ok done) = EventDone shown event w next n m old new
EventRan shown event w next n m old new (Err events.Write) = EventCut shown event w next old new
EventRan shown event w next n m old new (Err events.NoMemory) = Keeps old new × (next ≡ w)

-- If changes are shown, the text of an event's changes was written, or only a proper prefix of this text.
abbrev pub ChangesWritten : Shown → World → World → Option (List ℕ) → Option (List ℕ)
    → Result (Unit {0}) EventFault → Type 0
ChangesWritten shows.Sent w next old new result = (result ≡ Ok tt) × Keeps old new
ChangesWritten shows.SentAndFlows w next old new (Ok done) = Appends old new (changes_by w next)
ChangesWritten shows.SentAndFlows w next old new (Err events.Write) =
    WritesFront (changes_by w next) old new
ChangesWritten shows.SentAndFlows w next old new (Err events.NoMemory) = ⊥

-- If changes are shown, the stored terminations are those of the world.
abbrev pub AreKeptListeners : Shown → Option (List Listener) → World → Type 0
AreKeptListeners shows.Sent kept w = kept ≡ None
AreKeptListeners shows.SentAndFlows kept w = kept ≡ Some (listeners_of w.gateway)

-- The state represents the world and, if changes are shown, the stored terminations are those of the world.
pub record Follows (shown : Shown) (state : CoreState) (kept : Option (List Listener)) (w : World)
    : Type 0 where
  pub stands : StandsFor state w
  pub same : AreKeptListeners shown kept w

-- Every world that satisfies `Old` leads to a next world. If the result is `Ok`, the next world satisfies `New`.
abbrev pub LeadsOn : {E : Type 0} → (World → Type 0) → (World → Type 0) → Result (Unit {0}) E
    → (World → World → Type 0) → Type 0
LeadsOn Old New result Comes =
    (w : World) → Old w → (next : World) × Comes w next × OnOk result (New next)

-- Lines were run, and the datagrams sent were counted.
pub record RanCounted (shown : Shown) (w : World) (lines : List (List ℕ)) (last : World)
    (n m : ℕ) (old new : Option (List ℕ)) : Type 0 where
  pub ran : Ran shown w lines last old new
  pub counted : m ≡ after_sent n ran.sent

-- A line was run and its text was written. An error says why the line was not run, or why its text was not written
-- completely.
abbrev pub LineRan : Shown → ℕ → List ℕ → World → World → ℕ → ℕ → Option (List ℕ)
    → Option (List ℕ) → Result (Unit {0}) LineFault → Type 0
LineRan shown number line w next n m old new (Ok done) =
    RanCounted shown w (line ∷ []) next n m old new
LineRan shown number line w next n m old new (Err (stops.Bad bad)) =
    (bad ≡ number) × (event_of line ≡ None) × Keeps old new × (next ≡ w)
LineRan shown number line w next n m old new (Err stops.Write) =
    RanInPart shown w (line ∷ []) next old new
LineRan shown number line w next n m old new (Err stops.NoMemory) = Keeps old new × (next ≡ w)

-- The complete lines in these bytes were run, and the next line starts with the bytes in `left`, whatever follows. An
-- error says why the run stopped.
abbrev pub BytesRan : Shown → ℕ → ℕ → List ℕ → List ℕ → List ℕ → World → World → ℕ → ℕ
    → Option (List ℕ) → Option (List ℕ) → Result (Unit {0}) LineFault → Type 0
BytesRan shown count counted partial bytes left w next n m old new (Ok done) =
    (lines : List (List ℕ))
    × ((ended : Bool) (more : List ℕ) → lines_after ended partial (bytes ++ more) ≡ lines
    ++ lines_after ended left more)
    × (counted ≡ count + length lines) × RanCounted shown w lines next n m old new
BytesRan shown count counted partial bytes left w next n m old new (Err (stops.Bad number)) =
    (lines : List (List ℕ))
    × ((more : List ℕ) → HasBadAfter lines (lines_after true partial (bytes ++ more)))
    × (number ≡ count + length lines + 1) × Ran shown w lines next old new
BytesRan shown count counted partial bytes left w next n m old new (Err stops.Write) =
    (lines : List (List ℕ)) × (line : List ℕ) × (others : List (List ℕ))
    × (lines_after false partial bytes ≡ lines ++ line ∷ others)
    × (mid : World) × (held : Option (List ℕ)) × Ran shown w lines mid old held
    × RanInPart shown mid (line ∷ []) next held new
BytesRan shown count counted partial bytes left w next n m old new (Err stops.NoMemory) =
    (lines : List (List ℕ)) × (line : List ℕ) × (others : List (List ℕ))
    × (lines_after false partial bytes ≡ lines ++ line ∷ others) × Ran shown w lines next old new

-- A non-empty partial line is run and counted as the last line.
abbrev pub Finishes : Shown → ℕ → ℕ → List ℕ → World → World → ℕ → ℕ → Option (List ℕ)
    → Option (List ℕ) → Result (Unit {0}) LineFault → Type 0
Finishes shown count counted [] w next n m old new result =
    (result ≡ Ok tt) × Keeps old new × (next ≡ w) × (counted ≡ count) × (m ≡ n)
Finishes shown count counted (b ∷ bs) w next n m old new result =
    LineRan shown (count + 1) (b ∷ bs) w next n m old new result × OnOk result (counted ≡ count + 1)

-- The whole script was run, the state represents the resulting world, and the lines and datagrams
-- sent were counted.
pub record AllRanCounted (base : World) (shown : Shown) (script : List ℕ) (state : CoreState)
    (count n : ℕ) (old new : Option (List ℕ)) : Type 0 where
  pub last : World
  pub ran : RanCounted shown base (lines_of true script) last 0 n old new
  pub stands : StandsFor state last
  pub lines : count ≡ length (lines_of true script)

-- A whole input was run, or the run failed. In that case, the fault determines how far it got.
abbrev pub AllRan : (base : World) → Shown → (input rest : Option (List ℕ)) → CoreState → ℕ → ℕ
    → (old new : Option (List ℕ)) → Result (Unit {0}) ScriptFault → Type 0
AllRan base shown input rest state count n old new (Ok done) =
    (script : List ℕ) × HasRead input rest script true
    × AllRanCounted base shown script state count n old new
AllRan base shown input rest state count n old new (Err (scripts.Bad number)) =
    RanToBadLine base shown input rest number old new
AllRan base shown input rest state count n old new (Err scripts.Read) =
    RanAllRead base shown input rest old new
AllRan base shown input rest state count n old new (Err scripts.Write) =
    RanToCutLine base shown input rest old new
AllRan base shown input rest state count n old new (Err scripts.NoMemory) =
    RanToUnrunLine base shown input rest old new

-- ## Conversions of faults

abbrev pub run_fault_at_start : StartFault → RunFault
run_fault_at_start starts.BadConfig = runs.BadConfig
run_fault_at_start starts.NoMemory = runs.NoMemory

abbrev pub run_fault_of : ScriptFault → RunFault
run_fault_of (scripts.Bad n) = runs.Script n
run_fault_of scripts.Read = runs.Read
run_fault_of scripts.Write = runs.Write
run_fault_of scripts.NoMemory = runs.NoMemory

abbrev pub script_fault_of : LineFault → ScriptFault
script_fault_of (stops.Bad n) = scripts.Bad n
script_fault_of stops.Write = scripts.Write
script_fault_of stops.NoMemory = scripts.NoMemory

abbrev pub line_fault_of : EventFault → LineFault
line_fault_of events.Write = stops.Write
line_fault_of events.NoMemory = stops.NoMemory
