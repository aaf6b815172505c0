-- The entries of a trace that a fence checks.
use Rattle.std.proofs.Common.{◌≡◌, ℕ, Bool, false, List, [], ◌∷◌, ◌++◌, All, map, refl, sym, subst}
use Rattle.std.proofs.lemmas.List.Elements.{All-head, All-tail}
use Rattle.mg_core.specs.declared.event.Event.TheVariants as events
use Rattle.mg_ports.specs.declared.call.Call.{Call}
use Rattle.mg_ports.specs.declared.call.Call.TheVariants.{Receive, Send, BeginTick, Append, Renew}
use Rattle.mg_serve.specs.declared.fencing.Fencing.{Fencing}
use Rattle.mg_serve.specs.Fenced.{IsFenced, SaysReached, after_message}
use Rattle.mg_serve.specs.Journaled.{is_append}
use Rattle.std.specs.List.{list_any}
use Rattle.mg_core.specs.declared.event.Event.{Event}
use Rattle.mg_serve.specs.Session.{AppendsFor}
use Rattle.mg_serve.specs.Trace.{TraceEntry, Called, Happened, Printed, Noted, Stale}
use Rattle.mg_serve.proofs.AppendLemmas.{IsAppend, only_appends}
use Rattle.mg_serve.proofs.JournalLemmas.{IsIdle}

pub fenced_both : (a b c : Fencing) (p q : List TraceEntry) → IsFenced a p b → IsFenced b q c → IsFenced a (p ++ q) c
fenced_both a b c [] q h k = subst (λ (f : Fencing). IsFenced f q c) h k
fenced_both a b c (Called call ∷ p) q (says, h) k = (says, fenced_both a b c p q h k)
fenced_both a b c (Happened (events.Control source bytes) ∷ p) q (number, has, passes, h) k =
    (number, has, passes, fenced_both (after_message number a) b c p q h k)
fenced_both a b c (Happened (events.Media port source bytes) ∷ p) q h k = fenced_both a b c p q h k
fenced_both a b c (Happened events.Tick ∷ p) q h k = fenced_both a b c p q h k
fenced_both a b c (Printed text ∷ p) q h k = fenced_both a b c p q h k
fenced_both a b c (Noted text ∷ p) q h k = fenced_both a b c p q h k
fenced_both a b c (Stale source bytes ∷ p) q (number, has, fails, h) k = (number, has, fails, fenced_both a b c p q h k)

-- A call that doesn't write to the journal says no number.
quiet_says : (reached : ℕ) (call : Call) → is_append call ≡ false → SaysReached reached call
quiet_says reached (Receive socket receipt) quiet = tt
quiet_says reached (Send socket to bytes) quiet = tt
quiet_says reached (BeginTick timing) quiet = tt
quiet_says reached (Append lines durability result) quiet = tt
quiet_says reached (Renew text durability result) quiet = absurd cc

-- An append says no number.
appended_says : (reached : ℕ) (call : Call) → IsAppend (Called call) → SaysReached reached call
appended_says reached (Receive socket receipt) is = tt
appended_says reached (Send socket to bytes) is = tt
appended_says reached (BeginTick timing) is = tt
appended_says reached (Append lines durability result) is = tt
appended_says reached (Renew text durability result) is = absurd is

pub idle_fenced : (fence : Fencing) (entry : TraceEntry) → IsIdle entry → IsFenced fence (entry ∷ []) fence
idle_fenced fence (Called call) idle = (quiet_says fence.reached call idle, refl)
idle_fenced fence (Happened (events.Control source bytes)) idle = absurd idle
idle_fenced fence (Happened (events.Media port source bytes)) idle = refl
idle_fenced fence (Happened events.Tick) idle = absurd idle
idle_fenced fence (Printed text) idle = refl
idle_fenced fence (Noted text) idle = refl
idle_fenced fence (Stale source bytes) idle = absurd idle

pub calls_fenced : (fence : Fencing) (calls : List Call) → list_any is_append calls ≡ false →
    IsFenced fence (map (λ (call : Call). Called call) calls) fence
calls_fenced fence [] quiet = refl
calls_fenced fence (Receive socket receipt ∷ calls) quiet = (tt, calls_fenced fence calls quiet)
calls_fenced fence (Send socket to bytes ∷ calls) quiet = (tt, calls_fenced fence calls quiet)
calls_fenced fence (BeginTick timing ∷ calls) quiet = (tt, calls_fenced fence calls quiet)
calls_fenced fence (Append lines durability result ∷ calls) quiet = absurd cc
calls_fenced fence (Renew text durability result ∷ calls) quiet = absurd cc

-- ## Appends behind a fence

appends_only_fenced : (fence : Fencing) (p : List TraceEntry) → All IsAppend p → IsFenced fence p fence
appends_only_fenced fence [] all = refl
appends_only_fenced fence (Called call ∷ p) all = (
  appended_says fence.reached call (All-head IsAppend (Called call) p all),
  appends_only_fenced fence p (All-tail IsAppend (Called call) p all),
)
appends_only_fenced fence (Happened event ∷ p) all = absurd (All-head IsAppend (Happened event) p all)
appends_only_fenced fence (Printed text ∷ p) all = absurd (All-head IsAppend (Printed text) p all)
appends_only_fenced fence (Noted text ∷ p) all = absurd (All-head IsAppend (Noted text) p all)
appends_only_fenced fence (Stale source bytes ∷ p) all = absurd (All-head IsAppend (Stale source bytes) p all)

pub may_fenced : (fence : Fencing) (event : Event) (failed : Bool) (p : List TraceEntry) → AppendsFor event failed p
    → IsFenced fence p fence
may_fenced fence event failed p h = appends_only_fenced fence p (only_appends event failed p h)

-- `IsFenced` also holds with an equal fence at the end.
pub fenced_as : (old new : Fencing) (p : List TraceEntry) → new ≡ old → IsFenced old p old → IsFenced old p new
fenced_as old new p same h = subst (λ (f : Fencing). IsFenced old p f) (sym same) h
