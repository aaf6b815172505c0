-- Appends of a trace, as the definitions and the code's contracts describe them.
use Rattle.std.proofs.Common.{◌≡◌, ◌⊎◌, inl, inr, ℕ, Bool, true, false, List, [], ◌∷◌, ◌++◌, All, Result, Ok, Err, refl, sym, subst}
use Rattle.std.proofs.lemmas.List.Elements.{All-head, All-tail, All-nil, All-cons}
use Rattle.mg_journal.specs.declared.append_fault.AppendFault.{AppendFault}
use Rattle.mg_journal.specs.declared.durability.Durability.{Durability}
use Rattle.mg_journal.specs.declared.durability.Durability.TheVariants.{Written}
use Rattle.mg_ports.specs.declared.call.Call.TheVariants.{Receive, Send, BeginTick, Append, Renew}
use Rattle.mg_core.specs.declared.event.Event.{Event}
use Rattle.mg_core.specs.Counted.{ticks_line}
use Rattle.mg_core.specs.Recording.{event_line}
use Rattle.mg_serve.specs.Session.{AppendsFor}
use Rattle.mg_serve.specs.Trace.{TraceEntry, Called, Happened, Printed, Noted, Stale}
use Rattle.mg_serve.specs.aids.Journaling.{AreAppends, IsAppended}

-- An append, whether or not it succeeded.
abbrev pub IsAppend : TraceEntry → Type 0
IsAppend (Called (Append lines durability result)) = Unit {0}
IsAppend entry = ⊥

pub only_appends : (event : Event) (failed : Bool) (p : List TraceEntry) → AppendsFor event failed p → All IsAppend p
only_appends event failed [] h = All-nil IsAppend
only_appends event failed (Called (Append lines how (Ok done)) ∷ p) h =
    All-cons IsAppend (Called (Append lines how (Ok done))) p tt (only_appends event failed p h)
only_appends event failed (Called (Append lines how (Err fault)) ∷ p) (is, none, before) =
    All-cons IsAppend (Called (Append lines how (Err fault))) p tt (subst (λ (l : List TraceEntry). All IsAppend l) (sym none) (All-nil IsAppend))
only_appends event failed (Called (Receive socket receipt) ∷ p) h = absurd h
only_appends event failed (Called (Send socket to bytes) ∷ p) h = absurd h
only_appends event failed (Called (BeginTick timing) ∷ p) h = absurd h
only_appends event failed (Called (Renew text how result) ∷ p) h = absurd h
only_appends event failed (Happened other ∷ p) h = absurd h
only_appends event failed (Printed text ∷ p) h = absurd h
only_appends event failed (Noted text ∷ p) h = absurd h
only_appends event failed (Stale source bytes ∷ p) h = absurd h

pub appended_as : (event : Event) (p : List TraceEntry) → All IsAppended p → AppendsFor event false p
appended_as event [] all = refl
appended_as event (Called (Append lines how (Ok done)) ∷ p) all = appended_as event p (All-tail IsAppended _ p all)
appended_as event (Called (Append lines how (Err fault)) ∷ p) all = absurd (All-head IsAppended _ p all)
appended_as event (Called (Receive socket receipt) ∷ p) all = absurd (All-head IsAppended _ p all)
appended_as event (Called (Send socket to bytes) ∷ p) all = absurd (All-head IsAppended _ p all)
appended_as event (Called (BeginTick timing) ∷ p) all = absurd (All-head IsAppended _ p all)
appended_as event (Called (Renew text how result) ∷ p) all = absurd (All-head IsAppended _ p all)
appended_as event (Happened other ∷ p) all = absurd (All-head IsAppended _ p all)
appended_as event (Printed text ∷ p) all = absurd (All-head IsAppended _ p all)
appended_as event (Noted text ∷ p) all = absurd (All-head IsAppended _ p all)
appended_as event (Stale source bytes ∷ p) all = absurd (All-head IsAppended _ p all)

abbrev IsBefore : Event → List ℕ → Type 0
IsBefore event lines = ((ticks : ℕ) × (lines ≡ ticks_line ticks)) ⊎ (lines ≡ event_line event)

refused_as : (event : Event) (fault : AppendFault) (lines : List ℕ) (how : Durability) (p : List TraceEntry) → All IsAppended p
    → IsBefore event lines → AppendsFor event true (p ++ Called (Append lines how (Err fault)) ∷ [])
refused_as event fault lines how [] all before = (refl, refl, before)
refused_as event fault lines how (Called (Append more durability (Ok done)) ∷ p) all before =
    refused_as event fault lines how p (All-tail IsAppended _ p all) before
refused_as event fault lines how (Called (Append more durability (Err other)) ∷ p) all before = absurd (All-head IsAppended _ p all)
refused_as event fault lines how (Called (Receive socket receipt) ∷ p) all before = absurd (All-head IsAppended _ p all)
refused_as event fault lines how (Called (Send socket to bytes) ∷ p) all before = absurd (All-head IsAppended _ p all)
refused_as event fault lines how (Called (BeginTick timing) ∷ p) all before = absurd (All-head IsAppended _ p all)
refused_as event fault lines how (Called (Renew text durability result) ∷ p) all before = absurd (All-head IsAppended _ p all)
refused_as event fault lines how (Happened other ∷ p) all before = absurd (All-head IsAppended _ p all)
refused_as event fault lines how (Printed text ∷ p) all before = absurd (All-head IsAppended _ p all)
refused_as event fault lines how (Noted text ∷ p) all before = absurd (All-head IsAppended _ p all)
refused_as event fault lines how (Stale source bytes ∷ p) all before = absurd (All-head IsAppended _ p all)

-- Appends before an event, the last of which failed.
pub failed_as : (event : Event) (fault : AppendFault) (p : List TraceEntry) → AreAppends (Happened event ∷ []) (Err fault) p
    → AppendsFor event true p
failed_as event fault p (appended, lines, how, is, all, before) =
    subst (λ (l : List TraceEntry). AppendsFor event true l) (sym is) (refused_as event fault lines how appended all before)

-- Appends of ticks only.
pub ticks_as : (event : Event) (result : Result (Unit {0}) AppendFault) (p : List TraceEntry) → AreAppends [] result p
    → (failed : Bool) × AppendsFor event failed p
ticks_as event (Ok done) p all = (false, appended_as event p all)
ticks_as event (Err fault) p (appended, lines, how, is, all, inl ticks) = (
  true,
  subst (λ (l : List TraceEntry). AppendsFor event true l) (sym is) (refused_as event fault lines how appended all (inl ticks)),
)
ticks_as event (Err fault) p (appended, lines, how, is, all, inr none) = absurd none

-- One append of ticks.
pub one_as : (event : Event) (result : Result (Unit {0}) AppendFault) (count : ℕ)
    → (failed : Bool) × AppendsFor event failed (Called (Append (ticks_line count) Written result) ∷ [])
one_as event (Ok done) count = (false, refl)
one_as event (Err fault) count = (true, (refl, refl, inl (count, refl)))
