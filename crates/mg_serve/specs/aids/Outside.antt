-- Steps of the code, in terms of the worlds that its state represents.
use Rattle.std.specs.Prelude.{◌≡◌, ℕ, List, Option}
use Rattle.mg_core.specs.declared.state.CoreState.{CoreState}
use Rattle.mg_core.specs.World.{World}
use Rattle.mg_core.specs.aids.Stands.{StandsFor}
use Rattle.mg_journal.specs.declared.durability.Durability.{Durability}
use Rattle.mg_ports.specs.Calls.{Grows}
use Rattle.mg_ports.specs.Journaled.{PortsSeen, JournalAfter}
use Rattle.mg_serve.specs.Fenced.{IsFenced}
use Rattle.mg_serve.specs.declared.fencing.Fencing.{Fencing}
use Rattle.mg_serve.specs.Journaled.{IsJournaled}
use Rattle.mg_serve.specs.aids.Tried.{IsTried}
use Rattle.mg_serve.specs.Setup.{Setup, fencing_of}
use Rattle.mg_serve.specs.Trace.{TraceEntry, calls_of}
use Rattle.mg_serve.specs.aids.Printing.{PrinterView, Prints}

-- A session's view of its journal and its fence. If there is a journal, `durability` is that of messages. `lacking`
-- counts the ticks that the journal lacks, and `untried` the ticks since an append was last tried.
pub record JournalView : Type 0 where
  pub durability : Option Durability
  pub lacking : ℕ
  pub untried : ℕ
  pub fencing : Fencing

-- The view of a setup's journal at the start of a session. The journal doesn't lack any ticks.
abbrev pub new_journal : Setup → JournalView
new_journal setup =
    record { durability = setup.journal; lacking = 0; untried = 0; fencing = fencing_of setup }

-- A server as seen from outside: its ports, the content of its writer, its printer, and the progress of its journal.
pub record Outside : Type 0 where
  pub ports : PortsSeen
  pub written : Option (List ℕ)
  pub printer : PrinterView
  pub journal : JournalView

abbrev pub outside : PortsSeen → Option (List ℕ) → PrinterView → JournalView → Outside
outside ports written printer journal =
    record { ports = ports; written = written; printer = printer; journal = journal }

-- The effects of a trace, as seen from outside.
pub record LogsTrace (old new : Outside) (trace : List TraceEntry) : Type 0 where
  pub logged : Grows old.ports.calls new.ports.calls (calls_of trace)
  pub journaled : JournalAfter (calls_of trace) old.ports.journal new.ports.journal
  pub prints : Prints old.printer new.printer old.written new.written trace
  pub durability : new.journal.durability ≡ old.journal.durability
  pub lacks : IsJournaled old.journal.durability old.journal.lacking trace new.journal.lacking
  pub tries : IsTried old.journal.durability old.journal.untried trace new.journal.untried
  pub fenced : IsFenced old.journal.fencing trace new.journal.fencing

-- With some trace, every world that the old core represents steps to a world that the new core represents.
abbrev pub LeadsByTrace : CoreState → CoreState → Outside → Outside
    → (World → List TraceEntry → World → Type 0) → Type 0
LeadsByTrace old new before after R =
    (w : World) → StandsFor old w →
    (trace : List TraceEntry) × (next : World) × LogsTrace before after trace
    × R w trace next × StandsFor new next
