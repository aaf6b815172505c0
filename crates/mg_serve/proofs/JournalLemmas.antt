-- Appends one after another, and the ticks that a journal lacks.
use Rattle.std.proofs.Common.{◌≡◌, ℕ, ◌+◌, ◌<◌, inl, inr, Bool, false, List, [], ◌∷◌, ◌++◌, All, map, IsSome, Option, Some, None, Result, refl, ap, subst, ◌∙◌}
use Rattle.std.proofs.lemmas.List.Elements.{All-head, All-tail}
use Rattle.mg_words.specs.declared.peer.Peer.{Peer}
use Rattle.std.proofs.lemmas.List.Folds.{list_any-append}
use Rattle.std.specs.List.{list_any}
use Rattle.mg_journal.specs.declared.append_fault.AppendFault.{AppendFault}
use Rattle.mg_journal.specs.declared.durability.Durability.{Durability}
use Rattle.mg_journal.specs.Journal.{JournalState}
use Rattle.mg_ports.specs.declared.call.Call.{Call}
use Rattle.mg_ports.specs.declared.call.Call.TheVariants.{Receive, Send, BeginTick, Append, Renew}
use Rattle.mg_ports.specs.Journaled.{JournalAfter}
use Rattle.mg_core.specs.declared.event.Event.{Event}
use Rattle.mg_core.specs.declared.event.Event.TheVariants as events
use Rattle.mg_serve.specs.declared.form.Form.{Form}
use Rattle.mg_serve.specs.declared.form.Form.TheVariants.{Plain, Recording}
use Rattle.mg_serve.specs.Journaled.{Progress, Lacks, Advances, IsJournaled, Journals, Tries, is_append}
use Rattle.mg_serve.specs.aids.Tried.{IsTried}
use Rattle.mg_core.specs.World.{World}
use Rattle.mg_checkpoint.specs.Checkpoint.{checkpoint_text}
use Rattle.mg_serve.specs.Renewal.{renewal_text}
use Rattle.mg_serve.specs.Session.{AppendsFor, MayRenew}
use Rattle.mg_serve.specs.Setup.{Setup}
use Rattle.mg_serve.specs.Trace.{TraceEntry, Called, Happened, Printed, Noted, Stale, calls_of, output_of}
use Rattle.mg_serve.specs.aids.Journaling.{after_one_tick}
use Rattle.mg_serve.proofs.AppendLemmas.{IsAppend, only_appends}
use Rattle.mg_serve.proofs.Printing.{calls_both, output_both}

-- ## The journal of the ports

pub after_both : (p q : List Call) (a b c : JournalState) → JournalAfter p a b → JournalAfter q b c →
    JournalAfter (p ++ q) a c
after_both [] q a b c h k = subst (λ (j : JournalState). JournalAfter q j c) h k
after_both (Receive socket receipt ∷ p) q a b c h k = after_both p q a b c h k
after_both (Send socket to bytes ∷ p) q a b c h k = after_both p q a b c h k
after_both (BeginTick timing ∷ p) q a b c h k = after_both p q a b c h k
after_both (Append lines durability result ∷ p) q a b c h k = (h.0, h.1, after_both p q h.0 b c h.2 k)
after_both (Renew text durability result ∷ p) q a b c h k = (h.0, h.1, after_both p q h.0 b c h.2 k)

-- Calls without an append leave the journal unchanged.
pub after_quiet : (calls : List Call) (a b : JournalState) → list_any is_append calls ≡ false → b ≡ a →
    JournalAfter calls a b
after_quiet [] a b quiet same = same
after_quiet (Receive socket receipt ∷ calls) a b quiet same = after_quiet calls a b quiet same
after_quiet (Send socket to bytes ∷ calls) a b quiet same = after_quiet calls a b quiet same
after_quiet (BeginTick timing ∷ calls) a b quiet same = after_quiet calls a b quiet same
after_quiet (Append lines durability result ∷ calls) a b quiet same = absurd cc
after_quiet (Renew text durability result ∷ calls) a b quiet same = absurd cc

-- ## The ticks that the journal lacks

journals_both : (durable : Durability) (a b c : Progress) (p q : List TraceEntry) → Journals durable a p b →
    Journals durable b q c → Journals durable a (p ++ q) c
journals_both durable a b c [] q h k = subst (λ (s : Progress). Journals durable s q c) h k
journals_both durable a b c (entry ∷ p) q h k = (h.0, h.1, journals_both durable h.0 b c p q h.2 k)

pub journaled_both : (d : Option Durability) (a b c : ℕ) (p q : List TraceEntry) → IsJournaled d a p b →
    IsJournaled d b q c → IsJournaled d a (p ++ q) c
journaled_both None a b c p q h k = (
  ap (list_any is_append) (calls_both p q) ∙ list_any-append is_append (calls_of p) (calls_of q) ∙ cc,
  k.1 ∙ h.1,
)
journaled_both (Some durable) a b c p q h k = journals_both durable (Lacks a) (Lacks b) (Lacks c) p q h k

-- The entry does not affect the journal or the fence.
abbrev pub IsIdle : TraceEntry → Type 0
IsIdle (Called call) = is_append call ≡ false
IsIdle (Happened (events.Control source bytes)) = ⊥
IsIdle (Happened (events.Media port source bytes)) = Unit {0}
IsIdle (Happened events.Tick) = ⊥
IsIdle (Printed text) = Unit {0}
IsIdle (Noted text) = Unit {0}
IsIdle (Stale source bytes) = ⊥

advances_idle : (durable : Durability) (n : ℕ) (entry : TraceEntry) → IsIdle entry →
    Advances durable (Lacks n) entry (Lacks n)
advances_idle durable n (Called (Receive socket receipt)) idle = refl
advances_idle durable n (Called (Send socket to bytes)) idle = refl
advances_idle durable n (Called (BeginTick timing)) idle = refl
advances_idle durable n (Called (Append lines durability result)) idle = absurd cc
advances_idle durable n (Called (Renew text durability result)) idle = absurd cc
advances_idle durable n (Happened (events.Control source bytes)) idle = absurd idle
advances_idle durable n (Happened (events.Media port source bytes)) idle = refl
advances_idle durable n (Happened events.Tick) idle = absurd idle
advances_idle durable n (Printed text) idle = refl
advances_idle durable n (Noted text) idle = refl
advances_idle durable n (Stale source bytes) idle = absurd idle

appends_none : (entry : TraceEntry) → IsIdle entry → list_any is_append (calls_of (entry ∷ [])) ≡ false
appends_none (Called (Receive socket receipt)) idle = refl
appends_none (Called (Send socket to bytes)) idle = refl
appends_none (Called (BeginTick timing)) idle = refl
appends_none (Called (Append lines durability result)) idle = absurd cc
appends_none (Called (Renew text durability result)) idle = absurd cc
appends_none (Happened event) idle = refl
appends_none (Printed text) idle = refl
appends_none (Noted text) idle = refl
appends_none (Stale source bytes) idle = absurd idle

pub nothing_journaled : (d : Option Durability) (n : ℕ) → IsJournaled d n [] n
nothing_journaled None n = (refl, refl)
nothing_journaled (Some durable) n = refl

pub idle_journaled : (d : Option Durability) (n : ℕ) (entry : TraceEntry) → IsIdle entry →
    IsJournaled d n (entry ∷ []) n
idle_journaled None n entry idle = (appends_none entry idle, refl)
idle_journaled (Some durable) n entry idle = (Lacks n, advances_idle durable n entry idle, refl)

pub stale_journaled : (d : Option Durability) (n : ℕ) (source : Peer) (bytes : List ℕ) →
    IsJournaled d n (Stale source bytes ∷ []) n
stale_journaled None n source bytes = (refl, refl)
stale_journaled (Some durable) n source bytes = (Lacks n, refl, refl)

-- Without an append, calls don't change the number of ticks that the journal lacks.
pub calls_journaled : (d : Option Durability) (n : ℕ) (calls : List Call) → list_any is_append calls ≡ false →
    IsJournaled d n (map (λ (call : Call). Called call) calls) n
calls_journaled d n [] quiet = nothing_journaled d n
calls_journaled d n (Receive socket receipt ∷ calls) quiet =
    journaled_both d n n n (Called (Receive socket receipt) ∷ []) (map (λ (call : Call). Called call) calls)
    (idle_journaled d n (Called (Receive socket receipt)) refl) (calls_journaled d n calls quiet)
calls_journaled d n (Send socket to bytes ∷ calls) quiet =
    journaled_both d n n n (Called (Send socket to bytes) ∷ []) (map (λ (call : Call). Called call) calls)
    (idle_journaled d n (Called (Send socket to bytes)) refl) (calls_journaled d n calls quiet)
calls_journaled d n (BeginTick timing ∷ calls) quiet =
    journaled_both d n n n (Called (BeginTick timing) ∷ []) (map (λ (call : Call). Called call) calls)
    (idle_journaled d n (Called (BeginTick timing)) refl) (calls_journaled d n calls quiet)
calls_journaled d n (Append lines durability result ∷ calls) quiet = absurd cc
calls_journaled d n (Renew text durability result ∷ calls) quiet = absurd cc

-- After one more tick, the journal lacks one more tick, if there is a journal.
pub tick_journaled : (d : Option Durability) (n : ℕ) →
    IsJournaled d n (Happened events.Tick ∷ []) (after_one_tick d n)
tick_journaled None n = (refl, refl)
tick_journaled (Some durable) n = (Lacks (n + 1), refl, refl)

-- ## The ticks since an append was last tried

tries_both : (a b c : ℕ) (p q : List TraceEntry) → Tries a p b → Tries b q c → Tries a (p ++ q) c
tries_both a b c [] q h k = subst (λ (n : ℕ). Tries n q c) h k
tries_both a b c (Called (Append lines durability result) ∷ p) q h k = tries_both 0 b c p q h k
tries_both a b c (Called (Renew text durability result) ∷ p) q h k = (h.0, tries_both a b c p q h.1 k)
tries_both a b c (Called (Receive socket receipt) ∷ p) q h k = tries_both a b c p q h k
tries_both a b c (Called (Send socket to bytes) ∷ p) q h k = tries_both a b c p q h k
tries_both a b c (Called (BeginTick timing) ∷ p) q h k = tries_both a b c p q h k
tries_both a b c (Happened (events.Control source bytes) ∷ p) q h k = tries_both a b c p q h k
tries_both a b c (Happened (events.Media port source bytes) ∷ p) q h k = tries_both a b c p q h k
tries_both a b c (Happened events.Tick ∷ p) q h k = (h.0, tries_both (a + 1) b c p q h.1 k)
tries_both a b c (Printed text ∷ p) q h k = tries_both a b c p q h k
tries_both a b c (Noted text ∷ p) q h k = tries_both a b c p q h k
tries_both a b c (Stale source bytes ∷ p) q h k = tries_both a b c p q h k

pub tried_both : (d : Option Durability) (a b c : ℕ) (p q : List TraceEntry) → IsTried d a p b → IsTried d b q c →
    IsTried d a (p ++ q) c
tried_both None a b c p q h k = k ∙ h
tried_both (Some durable) a b c p q h k = tries_both a b c p q h k

pub nothing_tried : (d : Option Durability) (n : ℕ) → IsTried d n [] n
nothing_tried None n = refl
nothing_tried (Some durable) n = refl

pub idle_tried : (d : Option Durability) (n : ℕ) (entry : TraceEntry) → IsIdle entry → IsTried d n (entry ∷ []) n
idle_tried None n entry idle = refl
idle_tried (Some durable) n (Called (Receive socket receipt)) idle = refl
idle_tried (Some durable) n (Called (Send socket to bytes)) idle = refl
idle_tried (Some durable) n (Called (BeginTick timing)) idle = refl
idle_tried (Some durable) n (Called (Append lines durability result)) idle = absurd cc
idle_tried (Some durable) n (Called (Renew text durability result)) idle = absurd cc
idle_tried (Some durable) n (Happened (events.Control source bytes)) idle = absurd idle
idle_tried (Some durable) n (Happened (events.Media port source bytes)) idle = refl
idle_tried (Some durable) n (Happened events.Tick) idle = absurd idle
idle_tried (Some durable) n (Printed text) idle = refl
idle_tried (Some durable) n (Noted text) idle = refl
idle_tried (Some durable) n (Stale source bytes) idle = absurd idle

pub stale_tried : (d : Option Durability) (n : ℕ) (source : Peer) (bytes : List ℕ) → IsTried d n (Stale source bytes ∷ []) n
stale_tried None n source bytes = refl
stale_tried (Some durable) n source bytes = refl

pub calls_tried : (d : Option Durability) (n : ℕ) (calls : List Call) → list_any is_append calls ≡ false →
    IsTried d n (map (λ (call : Call). Called call) calls) n
calls_tried None n calls quiet = refl
calls_tried (Some durable) n [] quiet = refl
calls_tried (Some durable) n (Receive socket receipt ∷ calls) quiet = calls_tried (Some durable) n calls quiet
calls_tried (Some durable) n (Send socket to bytes ∷ calls) quiet = calls_tried (Some durable) n calls quiet
calls_tried (Some durable) n (BeginTick timing ∷ calls) quiet = calls_tried (Some durable) n calls quiet
calls_tried (Some durable) n (Append lines durability result ∷ calls) quiet = absurd cc
calls_tried (Some durable) n (Renew text durability result ∷ calls) quiet = absurd cc

pub tick_tried : (d : Option Durability) (n : ℕ) → n < 10 → IsTried d n (Happened events.Tick ∷ []) (after_one_tick d n)
tick_tried None n few = refl
tick_tried (Some durable) n few = (few, refl)

pub append_tried : (d : Option Durability) (n left : ℕ) (lines : List ℕ) (how : Durability)
    (result : Result (Unit {0}) AppendFault) → IsSome d → left ≡ 0 → IsTried d n (Called (Append lines how result) ∷ []) left
append_tried None n left lines how result some none = absurd cc
append_tried (Some durable) n left lines how result some none = none

pub message_tried : (d : Option Durability) (durable : Durability) (n left : ℕ) (lines : List ℕ) (how : Durability)
    (result : Result (Unit {0}) AppendFault) (source : Peer) (bytes : List ℕ) → d ≡ Some durable → left ≡ 0 →
    IsTried d n (Called (Append lines how result) ∷ Happened (events.Control source bytes) ∷ []) left
message_tried None durable n left lines how result source bytes is none = absurd cc
message_tried (Some wanted) durable n left lines how result source bytes is none = none

-- ## Appends

append_prints : (form : Form) (call : Call) → output_of form (Called call ∷ []) ≡ []
append_prints Plain call = refl
append_prints Recording call = refl

appends_print : (form : Form) (p : List TraceEntry) → All IsAppend p → output_of form p ≡ []
appends_print form [] all = refl
appends_print Plain (Called call ∷ p) all = appends_print Plain p (All-tail IsAppend (Called call) p all)
appends_print Recording (Called call ∷ p) all = appends_print Recording p (All-tail IsAppend (Called call) p all)
appends_print form (Happened event ∷ p) all = absurd (All-head IsAppend (Happened event) p all)
appends_print form (Printed text ∷ p) all = absurd (All-head IsAppend (Printed text) p all)
appends_print form (Noted text ∷ p) all = absurd (All-head IsAppend (Noted text) p all)
appends_print form (Stale source bytes ∷ p) all = absurd (All-head IsAppend (Stale source bytes) p all)

pub may_print : (form : Form) (event : Event) (failed : Bool) (p : List TraceEntry) → AppendsFor event failed p
    → output_of form p ≡ []
may_print form event failed p h = appends_print form p (only_appends event failed p h)

pub renewal_prints : (form : Form) (setup : Setup) (w : World) (p : List TraceEntry) → MayRenew setup w p → output_of form p ≡ []
renewal_prints form setup w p (inl none) = ap (output_of form) none
renewal_prints form setup w p (inr (appends, failed, h, reached, durability, result, is, fits, restorable)) =
    let renew = Renew (renewal_text setup.head (checkpoint_text w) reached) durability result in
    ap (output_of form) is ∙ (output_both form appends (Called renew ∷ [])
    ∙ (ap (λ (l : List ℕ). l ++ output_of form (Called renew ∷ [])) (may_print form events.Tick failed appends h)
    ∙ append_prints form renew))
