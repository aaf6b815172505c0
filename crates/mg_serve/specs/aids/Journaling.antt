-- Steps of a session's journal, as the ports see them and in the session's own view of the journal.
use Rattle.std.specs.Prelude.{◌≡◌, ◌⊎◌, ℕ, ◌+◌, ◌<◌, All, Bool, List, [], ◌∷◌, ◌++◌, Option, Some, None, Result, Ok, Err}
use Rattle.mg_journal.specs.declared.append_fault.AppendFault.{AppendFault}
use Rattle.mg_journal.specs.declared.durability.Durability.{Durability}
use Rattle.mg_journal.specs.declared.durability.Durability.TheVariants.{Written}
use Rattle.mg_core.specs.Counted.{ticks_line}
use Rattle.mg_core.specs.declared.event.Event.TheVariants as events
use Rattle.mg_core.specs.Recording.{event_line}
use Rattle.mg_core.specs.World.{World}
use Rattle.mg_ports.specs.declared.call.Call.{Call}
use Rattle.mg_ports.specs.declared.call.Call.TheVariants.{Append, Renew}
use Rattle.mg_ports.specs.Calls.{Grows}
use Rattle.mg_ports.specs.Journaled.{PortsSeen, JournalAfter}
use Rattle.mg_serve.specs.Journaled.{IsJournaled}
use Rattle.mg_serve.specs.aids.Tried.{IsTried}
use Rattle.mg_serve.specs.Fenced.{IsFenced}
use Rattle.mg_serve.specs.Session.{AppendsFor, MayRenew}
use Rattle.mg_serve.specs.Setup.{Setup}
use Rattle.mg_serve.specs.Trace.{TraceEntry, Called, Happened, calls_of}
use Rattle.mg_serve.specs.aids.Outside.{JournalView}

-- A number of ticks after one more tick. Without a journal, the number doesn't change.
abbrev pub after_one_tick : Option Durability → ℕ → ℕ
after_one_tick None ticks = ticks
after_one_tick (Some durability) ticks = ticks + 1

abbrev pub with_tick : JournalView → JournalView
with_tick view = record view {
  lacking = after_one_tick view.durability view.lacking;
  untried = after_one_tick view.durability view.untried;
}

-- The effects of some calls, as seen by the ports.
pub record LogsCalls (old new : PortsSeen) (calls : List Call) : Type 0 where
  pub logged : Grows old.calls new.calls calls
  pub journaled : JournalAfter calls old.journal new.journal

-- One append of the ticks that the journal lacked.
pub record AppendsTicks (result : Result (Unit {0}) AppendFault) (before after : PortsSeen)
    (old new : JournalView) : Type 0 where
  pub logs : LogsCalls before after (Append (ticks_line old.lacking) Written result ∷ [])
  pub durability : new.durability ≡ old.durability
  pub fencing : new.fencing ≡ old.fencing
  pub lacks : IsJournaled old.durability old.lacking
      (Called (Append (ticks_line old.lacking) Written result) ∷ []) new.lacking
  pub tries : IsTried old.durability old.untried
      (Called (Append (ticks_line old.lacking) Written result) ∷ []) new.untried

-- A successful append.
abbrev pub IsAppended : TraceEntry → Type 0
IsAppended (Called (Append lines durability (Ok done))) = Unit {0}
IsAppended entry = ⊥

-- These lines are the line of the event that follows.
abbrev pub IsLineOf : (followed : List TraceEntry) → List ℕ → Type 0
IsLineOf (Happened event ∷ followed) lines = lines ≡ event_line event
IsLineOf followed lines = ⊥

-- The trace consists of appends. If an append failed, it was the last append, and it failed with this error.
abbrev pub AreAppends : (followed : List TraceEntry) → Result (Unit {0}) AppendFault
    → List TraceEntry → Type 0
AreAppends followed (Ok done) trace = All IsAppended trace
AreAppends followed (Err fault) trace =
    (appended : List TraceEntry) × (lines : List ℕ) × (durability : Durability)
    × (trace ≡ appended ++ Called (Append lines durability (Err fault)) ∷ []) × All IsAppended appended
    × (((ticks : ℕ) × (lines ≡ ticks_line ticks)) ⊎ IsLineOf followed lines)

abbrev pub if_ok : Result (Unit {0}) AppendFault → List TraceEntry → List TraceEntry
if_ok (Ok done) trace = trace
if_ok (Err fault) trace = []

-- Lines were appended, up to the first append that failed. If no append failed, the entries `followed` come next.
pub record AppendsBefore (followed : List TraceEntry) (result : Result (Unit {0}) AppendFault)
    (before after : PortsSeen) (old new : JournalView) : Type 0 where
  pub trace : List TraceEntry
  pub are : AreAppends followed result trace
  pub logs : LogsCalls before after (calls_of trace)
  pub durability : new.durability ≡ old.durability
  pub fencing : new.fencing ≡ old.fencing
  pub lacks : IsJournaled old.durability old.lacking (trace ++ if_ok result followed) new.lacking
  pub tries : IsTried old.durability old.untried (trace ++ if_ok result followed) new.untried

-- A tick was counted, and then ticks may have been appended.
pub record EndsTick (before after : PortsSeen) (old new : JournalView) : Type 0 where
  pub appends : List TraceEntry
  pub failed : Bool
  pub may : AppendsFor events.Tick failed appends
  pub logs : LogsCalls before after (calls_of appends)
  pub durability : new.durability ≡ old.durability
  pub fencing : new.fencing ≡ old.fencing
  pub lacks : IsJournaled old.durability (after_one_tick old.durability old.lacking) appends
      new.lacking
  pub in_time : old.untried < 10
  pub tries : IsTried old.durability (after_one_tick old.durability old.untried) appends new.untried

-- The journal was renewed with this text, or the renewal failed.
pub record Renewed (text : List ℕ) (before after : PortsSeen) (old new : JournalView) : Type 0 where
  pub how : Durability
  pub result : Result (Unit {0}) AppendFault
  pub logs : LogsCalls before after (Renew text how result ∷ [])
  pub durability : new.durability ≡ old.durability
  pub fencing : new.fencing ≡ old.fencing
  pub lacks : IsJournaled old.durability old.lacking (Called (Renew text how result) ∷ []) new.lacking
  pub tries : IsTried old.durability old.untried (Called (Renew text how result) ∷ []) new.untried

-- The journal was renewed with the checkpoint of this world, or the renewal failed, or nothing was done.
pub record RenewsIfDue (setup : Setup) (w : World) (before after : PortsSeen) (old new : JournalView) : Type 0 where
  pub renewal : List TraceEntry
  pub may : MayRenew setup w renewal
  pub logs : LogsCalls before after (calls_of renewal)
  pub durability : new.durability ≡ old.durability
  pub fencing : new.fencing ≡ old.fencing
  pub lacks : IsJournaled old.durability old.lacking renewal new.lacking
  pub tries : IsTried old.durability old.untried renewal new.untried
  pub says : IsFenced old.fencing renewal old.fencing
