-- A whole run, from its start to its end.
use Rattle.std.proofs.Common.{◌≡◌, ℕ, ◌+◌, inl, Bool, true, false, List, [], ◌++◌, map, Option, Some, None, Result, Ok, Err, refl, sym, ap, subst, ◌∙◌}
use Rattle.std.proofs.KnownBytes.{Appends-nil}
use Rattle.std.proofs.lemmas.List.{append-nil}
use Rattle.std.specs.Prelude.{IsSome}
use Rattle.std.specs.Io.KnownBytes.{Appends}
use Rattle.mg_journal.specs.declared.durability.Durability.{Durability}
use Rattle.mg_clock.specs.Ticks.{ClockSeen}
use Rattle.mg_serve.specs.Setup.{Setup, fencing_of}
use Rattle.mg_core.specs.declared.counts.Counts.{Counts}
use Rattle.mg_core.specs.declared.fault.RunFault.{RunFault}
use Rattle.mg_core.specs.declared.fault.RunFault.TheVariants as faults
use Rattle.mg_core.specs.declared.state.CoreState.{CoreState}
use Rattle.mg_core.specs.World.{World, counts_of}
use Rattle.mg_core.specs.aids.Stands.{StandsFor}
use Rattle.mg_lines.specs.Streams.{WritesFront}
use Rattle.mg_ports.specs.Journaled.{PortsSeen}
use Rattle.mg_serve.specs.Fenced.{IsFenced}
use Rattle.mg_serve.specs.Journaled.{IsJournaled, Tries}
use Rattle.mg_serve.specs.aids.Tried.{IsTried}
use Rattle.mg_serve.specs.declared.command.Command.{Command}
use Rattle.mg_serve.specs.declared.form.Form.{Form}
use Rattle.mg_serve.specs.Lines.{prints}
use Rattle.mg_serve.specs.Serve.{AreCounted, ClockCommands, IsOutput, Opens, ReadCommands}
use Rattle.mg_serve.specs.Serve.{Served, form_of, opening}
use Rattle.mg_serve.specs.Trace.{TraceEntry, output_of}
use Rattle.mg_serve.specs.aids.Driving.{EndsBy, EndsByFault, RanBy, RanByClock, RanLines}
use Rattle.mg_serve.specs.aids.Printing.{PrinterView, Prints, Puts}
use Rattle.mg_serve.specs.aids.Outside.{JournalView, Outside, LeadsByTrace, LogsTrace, new_journal}
use Rattle.mg_serve.proofs.JournalLemmas.{nothing_journaled}
use Rattle.mg_serve.proofs.Printing.{prints_both}
use Rattle.mg_serve.proofs.Taking.{told_none, takes_as}
use Rattle.mg_serve.proofs.Running.{Read, consumes_none, nothing_left}
use Rattle.mg_serve.proofs.RunEnds.{LineExits, done, failed_by}

-- ## The whole run

abbrev ended_by : RunFault → Result Counts RunFault
ended_by fault = Err fault

abbrev ServedSession : Setup → World → Option (List ℕ) → (input rest : Option (List ℕ)) → (old new : PortsSeen)
    → (held written : Option (List ℕ)) → Result Counts RunFault → Type 0
ServedSession setup w title input rest old new held written result =
    Served setup w title (ReadCommands (form_of title) input rest result) old new held written result

abbrev ServedByClock : Setup → World → Option (List ℕ) → (allowed : ℕ) → (clock later : ClockSeen) → (fails : Type 0)
    → (old new : PortsSeen) → (held written : Option (List ℕ)) → RunFault → Type 0
ServedByClock setup w title allowed clock later fails old new held written fault =
    Served setup w title (ClockCommands (form_of title) allowed clock later fails (ended_by fault)) old new held written
    (ended_by fault)

-- If nothing was read, there are no commands.
no_lines : (form : Form) (i : Option (List ℕ)) (fault : RunFault) →
    LineExits form (ended_by fault) false [] [] [] i [] → ReadCommands form i i (ended_by fault) []
no_lines form i fault exits = record {
  text = [];
  ended = false;
  lines = [];
  others = [];
  consumed = consumes_none i;
  counted = nothing_left [];
  are = refl;
  exits = exits;
}

-- If memory ran out before the first step, there are no commands.
no_ticks : (form : Form) (allowed : ℕ) (clock : ClockSeen) (fails : Type 0) →
    ClockCommands form allowed clock clock fails (ended_by faults.NoMemory) []
no_ticks form allowed clock fails = record {
  steps = [];
  schedule = record { ticks = 0; allowed = allowed; messages = 0 };
  now = clock;
  begin = (refl, refl);
  exits = (refl, refl, refl);
}

no_ticks_unprinted : (form : Form) (allowed : ℕ) (clock : ClockSeen) (fails : Type 0) →
    ClockCommands form allowed clock clock fails (ended_by faults.Write) []
no_ticks_unprinted form allowed clock fails = record {
  steps = [];
  schedule = record { ticks = 0; allowed = allowed; messages = 0 };
  now = clock;
  begin = (refl, refl);
  exits = inl (refl, refl, refl);
}

-- A run that executed nothing satisfies `Served`.
serves_nothing : (setup : Setup) (w : World) (title : Option (List ℕ)) (Gave : List Command → Type 0) (x : PortsSeen)
    (held : Option (List ℕ)) (fault : RunFault) → Opens title (ended_by fault) [] →
    IsOutput (ended_by fault) [] held held → Gave [] → Served setup w title Gave x x held held (ended_by fault)
serves_nothing setup w title Gave x held fault opens printed gave = record {
  first = [];
  commands = [];
  trace = [];
  last = w;
  lacking = 0;
  opens = opens;
  gave = gave;
  session = (refl, refl);
  logs = told_none x.calls;
  lacks = nothing_journaled setup.journal 0;
  untried = 0;
  tries = λ some. refl;
  fenced = (fencing_of setup, refl);
  journaled = refl;
  printed = printed;
  counts = tt;
}

pub no_memory : (setup : Setup) (w : World) (title i : Option (List ℕ)) (x : PortsSeen) (held : Option (List ℕ)) →
    ServedSession setup w title i i x x held held (ended_by faults.NoMemory)
no_memory setup w title i x held =
    serves_nothing setup w title (ReadCommands (form_of title) i i (ended_by faults.NoMemory)) x held faults.NoMemory refl
    (Appends-nil held) (no_lines (form_of title) i faults.NoMemory (refl, refl))

pub no_memory_by_clock : (setup : Setup) (w : World) (title : Option (List ℕ)) (allowed : ℕ) (clock : ClockSeen)
    (fails : Type 0) (x : PortsSeen) (held : Option (List ℕ)) →
    ServedByClock setup w title allowed clock clock fails x x held held faults.NoMemory
no_memory_by_clock setup w title allowed clock fails x held =
    serves_nothing setup w title (ClockCommands (form_of title) allowed clock clock fails (ended_by faults.NoMemory)) x
    held faults.NoMemory refl (Appends-nil held) (no_ticks (form_of title) allowed clock fails)

-- If printing didn't fail, all text was printed (`all_put`). If it failed, a proper prefix was printed (`front_put`).
all_put : (a b : Bool) (text : List ℕ) (x y : Option (List ℕ)) → a ≡ false → b ≡ false → Puts a b text x y →
    Appends x y text
all_put false false text x y before after h = h
all_put false true text x y before after h = absurd cc
all_put true b text x y before after h = absurd cc

front_put : (a b : Bool) (text : List ℕ) (x y : Option (List ℕ)) → a ≡ false → b ≡ true → Puts a b text x y →
    WritesFront text x y
front_put false true text x y before after h = h.1
front_put false false text x y before after h = absurd cc
front_put true b text x y before after h = absurd cc

-- A printer of this form, before it prints.
abbrev pub new_printer : Form → PrinterView
new_printer form = record { form = form; has_failed = false }

-- The opening was printed.
abbrev pub Opened : Option (List ℕ) → PrinterView → PrinterView → Option (List ℕ) → Option (List ℕ) → Type 0
Opened title a b held now = (a ≡ new_printer (form_of title)) × Prints a b held now (opening title)

-- If printing failed during the opening, the run ends with `Write`, and no command was executed.
opens_not : (setup : Setup) (w : World) (title : Option (List ℕ)) (Gave : List Command → Type 0) (x : PortsSeen)
    (a b : PrinterView) (held now : Option (List ℕ)) → Opened title a b held now → b.has_failed ≡ true → Gave [] →
    Served setup w title Gave x x held now (ended_by faults.Write)
opens_not setup w title Gave x a b held now opened failed gave =
    let h = opened.1 in
    let view = opened.0 in
    let put = subst (λ (f : Form). Puts a.has_failed b.has_failed (output_of f (opening title)) held now)
    (ap (λ (v : PrinterView). v.form) view) h.puts in
    record {
      first = opening title;
      commands = [];
      trace = [];
      last = w;
      lacking = 0;
      opens = refl;
      gave = gave;
      session = (refl, refl);
      logs = told_none x.calls;
      lacks = nothing_journaled setup.journal 0;
      untried = 0;
      tries = λ some. refl;
      fenced = (fencing_of setup, refl);
      journaled = refl;
      printed = front_put a.has_failed b.has_failed (output_of (form_of title) (opening title ++ [])) held now
          (ap (λ (v : PrinterView). v.has_failed) view) failed
          (subst (λ (l : List TraceEntry). Puts a.has_failed b.has_failed (output_of (form_of title) l) held now)
          (sym (append-nil (opening title))) put);
      counts = tt;
    }

pub not_opened : (setup : Setup) (w : World) (title i : Option (List ℕ)) (x : PortsSeen) (a b : PrinterView)
    (held now : Option (List ℕ)) → Opened title a b held now → b.has_failed ≡ true →
    ServedSession setup w title i i x x held now (ended_by faults.Write)
not_opened setup w title i x a b held now opened failed =
    opens_not setup w title (ReadCommands (form_of title) i i (ended_by faults.Write)) x a b held now opened failed
    (no_lines (form_of title) i faults.Write (inl (refl, refl)))

pub not_opened_by_clock : (setup : Setup) (w : World) (title : Option (List ℕ)) (allowed : ℕ) (clock : ClockSeen)
    (fails : Type 0) (x : PortsSeen) (a b : PrinterView) (held now : Option (List ℕ)) → Opened title a b held now →
    b.has_failed ≡ true → ServedByClock setup w title allowed clock clock fails x x held now faults.Write
not_opened_by_clock setup w title allowed clock fails x a b held now opened failed =
    opens_not setup w title (ClockCommands (form_of title) allowed clock clock fails (ended_by faults.Write)) x a b held
    now opened failed (no_ticks_unprinted (form_of title) allowed clock fails)

-- The whole output consists of the opening and the output of the trace.
all_printed : (title : Option (List ℕ)) (a : PrinterView) (held : Option (List ℕ)) (x z : Outside) (p : List TraceEntry) →
    Opened title a x.printer held x.written → LogsTrace x z p →
    Puts false z.printer.has_failed (output_of (form_of title) (opening title ++ p)) held z.written
all_printed title a held x z p opened logged =
    let both = prints_both a x.printer z.printer held x.written z.written (opening title) p opened.1 logged.prints in
    subst (λ (v : PrinterView). Puts v.has_failed z.printer.has_failed (output_of v.form (opening title ++ p)) held
    z.written) opened.0 both.puts

opened_form : (title : Option (List ℕ)) (a b : PrinterView) (held now : Option (List ℕ)) → Opened title a b held now →
    b.form ≡ form_of title
opened_form title a b held now opened = opened.1.form ∙ ap (λ (v : PrinterView). v.form) opened.0

tried_in : (d : Option Durability) (n left : ℕ) (p : List TraceEntry) → IsTried d n p left → IsSome d → Tries n p left
tried_in None n left p tried some = absurd cc
tried_in (Some durable) n left p tried some = tried

-- After a server printed its opening and executed its commands, its run satisfies `Served`.
served_by : (setup : Setup) (w : World) (title : Option (List ℕ)) (Gave : Form → List Command → Type 0)
    (result : Result Counts RunFault) (old core : CoreState) (a : PrinterView) (held : Option (List ℕ))
    (x z : Outside) → StandsFor old w → x.journal ≡ new_journal setup → Opened title a x.printer held x.written →
    Opens title result (opening title) →
    ((text : List ℕ) → Puts false z.printer.has_failed text held z.written → IsOutput result text held z.written) →
    ((w : World) → StandsFor core w → AreCounted result w) →
    LeadsByTrace old core x z (RanBy setup (Gave x.printer.form)) →
    Served setup w title (Gave (form_of title)) x.ports z.ports held z.written result
served_by setup w title Gave result old core a held x z stands journal opened opens output counted h =
    let (p, next, logged, ran, after) = h w stands in
    let form = opened_form title a x.printer held x.written opened in
    record {
      first = opening title;
      commands = ran.0;
      trace = p;
      last = next;
      lacking = z.journal.lacking;
      opens = opens;
      gave = subst (λ (f : Form). Gave f ran.0) form ran.1;
      session = ran.2;
      logs = logged.logged;
      lacks = subst (λ (v : JournalView). IsJournaled v.durability v.lacking p z.journal.lacking) journal logged.lacks;
      untried = z.journal.untried;
      tries = tried_in setup.journal 0 z.journal.untried p
          (subst (λ (v : JournalView). IsTried v.durability v.untried p z.journal.untried) journal logged.tries);
      fenced = (z.journal.fencing, subst (λ (v : JournalView). IsFenced v.fencing p z.journal.fencing) journal logged.fenced);
      journaled = logged.journaled;
      printed = output (output_of (form_of title) (opening title ++ p)) (all_printed title a held x z p opened logged);
      counts = counted next after;
    }

read_ok : (counts : Counts) (form : Form) (i k : Option (List ℕ)) (commands : List Command) →
    ReadCommands form i k done commands → ReadCommands {T = Counts} form i k (Ok counts) commands
read_ok counts form i k commands h = record {
  text = h.text;
  ended = h.ended;
  lines = h.lines;
  others = h.others;
  consumed = h.consumed;
  counted = h.counted;
  are = h.are;
  exits = h.exits;
}

read_err : (form : Form) (fault : RunFault) (i k : Option (List ℕ)) (commands : List Command) →
    ((text : List ℕ) (ended : Bool) (lines others : List (List ℕ)) →
    LineExits form (failed_by fault) ended text lines others k commands →
    LineExits form (ended_by fault) ended text lines others k commands) →
    ReadCommands form i k (failed_by fault) commands → ReadCommands form i k (ended_by fault) commands
read_err form fault i k commands same h = record {
  text = h.text;
  ended = h.ended;
  lines = h.lines;
  others = h.others;
  consumed = h.consumed;
  counted = h.counted;
  are = h.are;
  exits = same h.text h.ended h.lines h.others h.exits;
}

-- If the commands from one source also come from another source, a run by the first source is also a run by the second.
gave_as : (setup : Setup) (G H : List Command → Type 0) (old core : CoreState) (x z : Outside) →
    ((commands : List Command) → G commands → H commands) → LeadsByTrace old core x z (RanBy setup G) →
    LeadsByTrace old core x z (RanBy setup H)
gave_as setup G H old core x z map h =
    takes_as old core x z (RanBy setup G) (RanBy setup H) h (λ w next p ran. (ran.0, map ran.0 ran.1, ran.2))

pub served_ok : (counts : Counts) (setup : Setup) (w : World) (title i k : Option (List ℕ)) (old core : CoreState)
    (a : PrinterView) (held : Option (List ℕ)) (x z : Outside) → StandsFor old w → x.journal ≡ new_journal setup →
    Opened title a x.printer held x.written → EndsBy done z.printer.has_failed →
    LeadsByTrace old core x z (RanLines x.printer.form setup i k done) →
    ((w : World) → StandsFor core w → record counts { lines = 0; sent = 0; failed = 0 } ≡ counts_of w.tally) →
    ServedSession setup w title i k x.ports z.ports held z.written (Ok counts)
served_ok counts setup w title i k old core a held x z stands journal opened ends h counted =
    served_by setup w title (λ form. ReadCommands form i k (Ok counts)) (Ok counts) old core a held x z stands journal
    opened refl
    (λ text. all_put false z.printer.has_failed text held z.written refl ends) counted
    (gave_as setup (ReadCommands x.printer.form i k done) (ReadCommands x.printer.form i k (Ok counts)) old core x z
    (read_ok counts x.printer.form i k) h)

-- If a run ended with this fault, its output satisfies `IsOutput`.
output_by : (fault : RunFault) (failed : Bool) (text : List ℕ) (held written : Option (List ℕ)) →
    EndsByFault fault failed → Puts false failed text held written → IsOutput (ended_by fault) text held written
output_by faults.Read failed text held written ends = all_put false failed text held written refl ends
output_by faults.Write failed text held written ends = front_put false failed text held written refl ends
output_by faults.NoMemory failed text held written ends = absurd ends
output_by faults.BadConfig failed text held written ends = absurd ends
output_by (faults.Script number) failed text held written ends = absurd ends

opens_by : (fault : RunFault) (failed : Bool) (title : Option (List ℕ)) → EndsByFault fault failed →
    Opens title (ended_by fault) (opening title)
opens_by faults.Read failed title ends = refl
opens_by faults.Write failed title ends = refl
opens_by faults.NoMemory failed title ends = absurd ends
opens_by faults.BadConfig failed title ends = absurd ends
opens_by (faults.Script number) failed title ends = absurd ends

exits_by : (fault : RunFault) (failed : Bool) (form : Form) (k : Option (List ℕ)) (commands : List Command) →
    EndsByFault fault failed → (text : List ℕ) (ended : Bool) (lines others : List (List ℕ)) →
    LineExits form (failed_by fault) ended text lines others k commands →
    LineExits form (ended_by fault) ended text lines others k commands
exits_by faults.Read failed form k commands ends text ended lines others e = e
exits_by faults.Write failed form k commands ends text ended lines others e = e
exits_by faults.NoMemory failed form k commands ends text ended lines others e = absurd ends
exits_by faults.BadConfig failed form k commands ends text ended lines others e = absurd ends
exits_by (faults.Script number) failed form k commands ends text ended lines others e = absurd ends

pub served_err : (fault : RunFault) (setup : Setup) (w : World) (title i k : Option (List ℕ)) (old core : CoreState)
    (a : PrinterView) (held : Option (List ℕ)) (x z : Outside) → StandsFor old w → x.journal ≡ new_journal setup →
    Opened title a x.printer held x.written → EndsBy (failed_by fault) z.printer.has_failed →
    LeadsByTrace old core x z (RanLines x.printer.form setup i k (failed_by fault)) →
    ServedSession setup w title i k x.ports z.ports held z.written (ended_by fault)
served_err fault setup w title i k old core a held x z stands journal opened ends h =
    served_by setup w title (λ form. ReadCommands form i k (ended_by fault)) (ended_by fault) old core a held x z stands
    journal opened (opens_by fault z.printer.has_failed title ends)
    (λ text. output_by fault z.printer.has_failed text held z.written ends) (λ v after. tt)
    (gave_as setup (ReadCommands x.printer.form i k (failed_by fault))
    (ReadCommands x.printer.form i k (ended_by fault)) old core x z
    (λ commands. read_err x.printer.form fault i k commands
    (exits_by fault z.printer.has_failed x.printer.form k commands ends)) h)

pub served_by_clock : (fault : RunFault) (setup : Setup) (w : World) (title : Option (List ℕ)) (allowed : ℕ) (c d : ClockSeen)
    (fails : Type 0) (old core : CoreState) (a : PrinterView) (held : Option (List ℕ)) (x z : Outside) →
    StandsFor old w → x.journal ≡ new_journal setup → Opened title a x.printer held x.written →
    EndsByFault fault z.printer.has_failed →
    LeadsByTrace old core x z (RanByClock x.printer.form setup allowed c d fails fault) →
    ServedByClock setup w title allowed c d fails x.ports z.ports held z.written fault
served_by_clock fault setup w title allowed c d fails old core a held x z stands journal opened ends h =
    served_by setup w title (λ form. ClockCommands form allowed c d fails (ended_by fault)) (ended_by fault) old core a held x z
    stands journal opened (opens_by fault z.printer.has_failed title ends)
    (λ text. output_by fault z.printer.has_failed text held z.written ends) (λ v after. tt) h
