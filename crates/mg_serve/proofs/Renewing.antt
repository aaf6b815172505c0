-- Renewals of a session's journal.
use Rattle.std.proofs.Common.{◌≡◌, ℕ, ◌^◌, ◌<◌, inl, inr, List, [], ◌∷◌, ◌++◌, decimal, Option, Some, Result, Ok, Err, refl, sym, ap, subst, ◌∙◌, append_assoc, append-nil, codes}
use Rattle.mg_journal.specs.declared.append_fault.AppendFault.{AppendFault}
use Rattle.mg_journal.specs.declared.durability.Durability.{Durability}
use Rattle.mg_journal.specs.Text.{EndsInLineFeed}
use Rattle.mg_journal.proofs.TextLemmas.{ends_line}
use Rattle.mg_ports.specs.declared.call.Call.{Call}
use Rattle.mg_ports.specs.declared.call.Call.TheVariants.{Renew}
use Rattle.mg_ports.specs.Calls.{Grows}
use Rattle.mg_ports.specs.Journaled.{PortsSeen, RenewsDated}
use Rattle.mg_checkpoint.specs.Checkpoint.{checkpoint_text}
use Rattle.mg_core.specs.World.{World}
use Rattle.mg_core.specs.declared.event.Event.TheVariants as events
use Rattle.mg_serve.specs.Fenced.{reached_line}
use Rattle.mg_serve.specs.Journaled.{Lacks, IsJournaled}
use Rattle.mg_serve.specs.Renewal.{IsRestorable, renewal_text}
use Rattle.mg_serve.specs.Setup.{Setup}
use Rattle.mg_serve.specs.Trace.{TraceEntry, Called, calls_of}
use Rattle.mg_serve.specs.aids.Journaling.{AppendsBefore, LogsCalls, Renewed, RenewsIfDue, if_ok}
use Rattle.mg_serve.specs.aids.Outside.{JournalView}
use Rattle.mg_serve.specs.aids.Tried.{IsTried}
use Rattle.mg_serve.proofs.AppendLemmas.{ticks_as}
use Rattle.mg_serve.proofs.Appending.{logs_both}
use Rattle.mg_serve.proofs.FenceLemmas.{fenced_both, may_fenced}
use Rattle.mg_serve.proofs.JournalLemmas.{journaled_both, nothing_journaled, nothing_tried, tried_both}
use Rattle.mg_serve.proofs.Taking.{told_none}

-- ## The text

pub renewal_feed : (head checkpoint : List ℕ) (reached : ℕ) → EndsInLineFeed (renewal_text head checkpoint reached)
renewal_feed head checkpoint reached =
    subst EndsInLineFeed (sym apart)
    (ends_line (head ++ (checkpoint ++ (codes "# counted ticks\n" ++ (codes "# reached " ++ decimal reached)))))
  where
    apart : renewal_text head checkpoint reached
        ≡ (head ++ (checkpoint ++ (codes "# counted ticks\n" ++ (codes "# reached " ++ decimal reached)))) ++ 10 ∷ []
    apart = simp append_assoc

says_apart : (head checkpoint : List ℕ) (reached : ℕ) → renewal_text head checkpoint reached
    ≡ (head ++ (checkpoint ++ codes "# counted ticks\n")) ++ reached_line reached
says_apart head checkpoint reached =
    ap (λ (l : List ℕ). head ++ l) (sym (append_assoc checkpoint (codes "# counted ticks\n") (reached_line reached)))
    ∙ sym (append_assoc head (checkpoint ++ codes "# counted ticks\n") (reached_line reached))

-- ## One renewal

pub renewal_failed : (fault : AppendFault) (text : List ℕ) (durable : Durability) (before after : PortsSeen) (j : JournalView) →
    j.durability ≡ Some durable → j.untried ≡ 0 → Grows before.calls after.calls (Renew text durable (Err fault) ∷ []) →
    RenewsDated text durable before.journal after.journal (Err fault) → Renewed text before after j j
renewal_failed fault text durable before after j is tried logged dated =
    let renewal = Called (Renew text durable (Err fault)) ∷ [] in
    record {
      how = durable;
      result = Err fault;
      logs = record { logged = logged; journaled = (after.journal, dated, refl) };
      durability = refl;
      fencing = refl;
      lacks = subst (λ (d : Option Durability). IsJournaled d j.lacking renewal j.lacking) (sym is)
          (Lacks j.lacking, (refl, refl), refl);
      tries = subst (λ (d : Option Durability). IsTried d j.untried renewal j.untried) (sym is) (tried, refl);
    }

pub renewal_worked : (text : List ℕ) (durable : Durability) (before after : PortsSeen) (j k : JournalView) →
    j.durability ≡ Some durable → j.untried ≡ 0 → k ≡ record j { lacking = 0 } →
    Grows before.calls after.calls (Renew text durable (Ok tt) ∷ []) →
    RenewsDated text durable before.journal after.journal (Ok tt) → Renewed text before after j k
renewal_worked text durable before after j k is tried at logged dated =
    let renewal = Called (Renew text durable (Ok tt)) ∷ [] in
    subst (λ (v : JournalView). Renewed text before after j v) (sym at) (record {
      how = durable;
      result = Ok tt;
      logs = record { logged = logged; journaled = (after.journal, dated, refl) };
      durability = refl;
      fencing = refl;
      lacks = subst (λ (d : Option Durability). IsJournaled d j.lacking renewal 0) (sym is) (Lacks 0, (refl, refl), refl);
      tries = subst (λ (d : Option Durability). IsTried d j.untried renewal j.untried) (sym is) (tried, refl);
    })

-- ## At the end of a tick

pub due_none : (setup : Setup) (w : World) (before after : PortsSeen) (j : JournalView) → after.calls ≡ before.calls →
    after.journal ≡ before.journal → RenewsIfDue setup w before after j j
due_none setup w before after j same kept = record {
  renewal = [];
  may = inl refl;
  logs = record {
    logged = subst (λ (o : Option (List Call)). Grows before.calls o []) (sym same) (told_none before.calls);
    journaled = kept;
  };
  durability = refl;
  fencing = refl;
  lacks = nothing_journaled j.durability j.lacking;
  tries = nothing_tried j.durability j.untried;
  says = refl;
}

-- The appends before a renewal, and the renewal.
pub renews_due : (setup : Setup) (w : World) (text : List ℕ) (result : Result (Unit {0}) AppendFault)
    (before mid ticked after : PortsSeen) (j i k : JournalView) →
    mid.calls ≡ before.calls → mid.journal ≡ before.journal → IsRestorable w → j.fencing.reached < 2 ^ 32 →
    text ≡ renewal_text setup.head (checkpoint_text w) j.fencing.reached → AppendsBefore [] result mid ticked j i →
    Renewed text ticked after i k → RenewsIfDue setup w before after j k
renews_due setup w text result before mid ticked after j i k same kept restorable fits is appends h =
    let renew = Renew text h.how h.result in
    let end = Called renew ∷ [] in
    let (failed, are) = ticks_as events.Tick result appends.trace appends.are in
    record {
      renewal = appends.trace ++ end;
      may = inr (
        appends.trace,
        failed,
        are,
        j.fencing.reached,
        h.how,
        h.result,
        ap (λ (l : List ℕ). appends.trace ++ Called (Renew l h.how h.result) ∷ []) is,
        fits,
        restorable,
      );
      logs = logs_both before ticked after appends.trace end
          (subst (λ (s : PortsSeen). LogsCalls s ticked (calls_of appends.trace)) (seen_again before mid same kept) appends.logs)
          h.logs;
      durability = h.durability ∙ appends.durability;
      fencing = h.fencing ∙ appends.fencing;
      lacks = journaled_both j.durability j.lacking i.lacking k.lacking appends.trace end
          (subst (λ (l : List TraceEntry). IsJournaled j.durability j.lacking l i.lacking) (only_trace result appends.trace) appends.lacks)
          (subst (λ (d : Option Durability). IsJournaled d i.lacking end k.lacking) appends.durability h.lacks);
      tries = tried_both j.durability j.untried i.untried k.untried appends.trace end
          (subst (λ (l : List TraceEntry). IsTried j.durability j.untried l i.untried) (only_trace result appends.trace) appends.tries)
          (subst (λ (d : Option Durability). IsTried d i.untried end k.untried) appends.durability h.tries);
      says = fenced_both j.fencing j.fencing j.fencing appends.trace end (may_fenced j.fencing events.Tick failed appends.trace are) (
        (setup.head ++ (checkpoint_text w ++ codes "# counted ticks\n"), is ∙ says_apart setup.head (checkpoint_text w) j.fencing.reached),
        refl,
      );
    }
  where
    seen_again : (before mid : PortsSeen) → mid.calls ≡ before.calls → mid.journal ≡ before.journal → mid ≡ before
    seen_again before mid same kept = λ i. record { calls = same i; journal = kept i }

    only_trace : (result : Result (Unit {0}) AppendFault) (p : List TraceEntry) → p ++ if_ok result [] ≡ p
    only_trace (Ok done) p = append-nil p
    only_trace (Err fault) p = append-nil p
