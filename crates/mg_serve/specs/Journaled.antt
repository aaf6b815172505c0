-- The lines that a session appends to its journal, when it appends them, and the effects of renewals.
use Rattle.std.specs.Prelude.{◌≡◌, ◌⊎◌, ℕ, ◌+◌, ◌^◌, ◌<◌, Bool, true, false, List, [], ◌∷◌}
use Rattle.std.specs.Prelude.{Option, Some, None, Result, Ok, Err}
use Rattle.std.specs.List.{list_any}
use Rattle.mg_journal.specs.declared.append_fault.AppendFault.{AppendFault}
use Rattle.mg_journal.specs.declared.durability.Durability.{Durability}
use Rattle.mg_journal.specs.declared.durability.Durability.TheVariants.{Written}
use Rattle.mg_ports.specs.declared.call.Call.{Call}
use Rattle.mg_ports.specs.declared.call.Call.TheVariants.{Append, Renew}
use Rattle.mg_words.specs.declared.peer.Peer.{Peer}
use Rattle.mg_core.specs.Counted.{ticks_line}
use Rattle.mg_core.specs.declared.event.Event.TheVariants as events
use Rattle.mg_core.specs.ExceptReceived.{is_oversized}
use Rattle.mg_core.specs.Recording.{IsDatagram, event_line}
use Rattle.mg_serve.specs.Trace.{TraceEntry, Called, Happened, calls_of}

-- Whether a call writes to the journal.
abbrev pub is_append : Call → Bool
is_append (Append lines durability result) = true
is_append (Renew text durability result) = true
is_append _ = false

-- How far the journal lags behind the events. Either it lacks this many ticks, or it has everything, and its last line
-- announces the message that is handled next.
pub data Progress : Type 0 where
  Lacks : (ticks : ℕ) → Progress
  Announces : (source : Peer) (bytes : List ℕ) → Progress

-- The progress after an append, whether or not it succeeded.
abbrev pub after_append : Result (Unit {0}) AppendFault → (appended before : Progress) → Progress
after_append (Ok done) appended before = appended
after_append (Err fault) appended before = before

-- An append. If the journal lacks ticks, the line with their number is appended. Otherwise the line for a message that
-- can arrive and isn't oversized is appended.
abbrev pub AppendsLines : Durability → ℕ → List ℕ → Durability → Result (Unit {0}) AppendFault
    → Progress → Type 0
AppendsLines durable lacking lines durability result next =
    ((0 < lacking) × (lacking < 2 ^ 64) × (lines ≡ ticks_line lacking)
    × (durability ≡ Written) × (next ≡ after_append result (Lacks 0) (Lacks lacking)))
    ⊎ ((source : Peer) × (bytes : List ℕ) × (lacking ≡ 0)
    × (lines ≡ event_line (events.Control source bytes)) × (durability ≡ durable)
    × (next ≡ after_append result (Announces source bytes) (Lacks 0)) × IsDatagram source bytes
    × (is_oversized (events.Control source bytes) ≡ false))

-- The progress after an entry of a trace. A message is handled only directly after it was announced, unless it is
-- oversized. After each tick, the journal lacks one more tick. A renewed journal lacks nothing. A renewal that fails
-- changes nothing.
abbrev pub Advances : Durability → Progress → TraceEntry → Progress → Type 0
Advances durable (Announces source bytes) entry next =
    (entry ≡ Happened (events.Control source bytes)) × (next ≡ Lacks 0)
Advances durable (Lacks ticks) (Called (Append lines durability result)) next =
    AppendsLines durable ticks lines durability result next
Advances durable (Lacks ticks) (Called (Renew text durability result)) next =
    (durability ≡ durable) × (next ≡ after_append result (Lacks 0) (Lacks ticks))
Advances durable (Lacks ticks) (Happened (events.Control source bytes)) next =
    (is_oversized (events.Control source bytes) ≡ true) × (next ≡ Lacks ticks)
Advances durable (Lacks ticks) (Happened events.Tick) next = next ≡ Lacks (ticks + 1)
Advances durable (Lacks ticks) entry next = next ≡ Lacks ticks

abbrev pub Journals : Durability → Progress → List TraceEntry → Progress → Type 0
Journals durable old [] new = new ≡ old
Journals durable old (entry ∷ trace) new =
    (next : Progress) × Advances durable old entry next × Journals durable next trace new

-- A session without a journal appends nothing and renews nothing. Otherwise messages are appended with this durability,
-- and the journal is renewed with it. The numbers are those of the ticks that the journal lacks, before and after the
-- trace.
abbrev pub IsJournaled : Option Durability → ℕ → List TraceEntry → ℕ → Type 0
IsJournaled None lacking trace left =
    (list_any is_append (calls_of trace) ≡ false) × (left ≡ lacking)
IsJournaled (Some durable) lacking trace left =
    Journals durable (Lacks lacking) trace (Lacks left)

-- Appends are tried in time: at most ten ticks happen between one try and the next, whether or not the appends succeed.
-- A renewal comes directly after a try, without a tick in between. The numbers are those of the ticks since the last
-- try, before and after the trace.
abbrev pub Tries : (untried : ℕ) → List TraceEntry → (left : ℕ) → Type 0
Tries untried [] left = left ≡ untried
Tries untried (Called (Append lines durability result) ∷ trace) left = Tries 0 trace left
Tries untried (Called (Renew text durability result) ∷ trace) left =
    (untried ≡ 0) × Tries untried trace left
Tries untried (Happened events.Tick ∷ trace) left = (untried < 10) × Tries (untried + 1) trace left
Tries untried (entry ∷ trace) left = Tries untried trace left
