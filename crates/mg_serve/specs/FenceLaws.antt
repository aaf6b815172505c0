-- The purpose of a fence: a controller that has been replaced can't command the gateway with numbered messages any
-- more.
use Rattle.std.specs.Prelude.{◌≡◌, ℕ, ◌≤◌, List, ◌∷◌, ◌++◌, map, Some, Result}
use Rattle.mg_words.specs.declared.peer.Peer.{Peer}
use Rattle.mg_core.specs.declared.event.Event.TheVariants.{Control}
use Rattle.mg_core.specs.Note.{Note}
use Rattle.mg_core.specs.Note as notes
use Rattle.mg_fence.specs.declared.fence.Fence.{Fence}
use Rattle.mg_fence.specs.Number.{HasNumber}
use Rattle.mg_fence.specs.Reached.{Reaches}
use Rattle.mg_journal.specs.declared.append_fault.AppendFault.{AppendFault}
use Rattle.mg_journal.specs.declared.durability.Durability.{Durability}
use Rattle.mg_ports.specs.declared.call.Call.TheVariants.{Renew}
use Rattle.mg_serve.specs.Fenced.{IsFenced, reached_line}
use Rattle.mg_serve.specs.declared.fencing.Fencing.{Fencing}
use Rattle.mg_serve.specs.Trace.{TraceEntry, Called, Happened, events_of_trace}

-- Suppose a message with a number is run behind a fence. Then its number is at least that of every earlier message that
-- has been run since an operator last set the fence. Earlier messages include those in the journal from earlier lives
-- of the gateway.
abbrev pub NoLowerNumberIsRun : Type 0
NoLowerNumberIsRun =
    (fence : Fence) (start end : Fencing) (earlier : List Note) (front rest : List TraceEntry)
    (source : Peer) (bytes : List ℕ) (last number : ℕ) → start.fence ≡ Some fence
    → Reaches 0 earlier fence.reached
    → IsFenced start (front ++ Happened (Control source bytes) ∷ rest) end
    → Reaches 0 (earlier ++ map notes.Happened (events_of_trace front)) last
    → HasNumber bytes (Some number) → last ≤ number

-- A renewed journal says the number that the journal had reached, so a later life of the gateway begins with it.
abbrev pub RenewalsSayTheNumber : Type 0
RenewalsSayTheNumber =
    (start end : Fencing) (earlier : List Note) (front rest : List TraceEntry) (text : List ℕ)
    (durability : Durability) (result : Result (Unit {0}) AppendFault) (last : ℕ)
    → Reaches 0 earlier start.reached
    → IsFenced start (front ++ Called (Renew text durability result) ∷ rest) end
    → Reaches 0 (earlier ++ map notes.Happened (events_of_trace front)) last
    → (before : List ℕ) × (text ≡ before ++ reached_line last)
