-- The text on the disk after an answer was sent.
use Rattle.std.proofs.Common.{◌≡◌, ℕ, false, true, List, [], ◌∷◌, ◌++◌, take, Option, Some, None, Result, Ok, Err, refl, sym, ap, subst, ◌∙◌, append_assoc, append-nil}
use Rattle.std.specs.List.{list_any}
use Rattle.std.specs.Io.KnownBytes.{append_known}
use Rattle.std.proofs.lemmas.List.{append_cancel_left}
use Rattle.mg_journal.specs.declared.append_fault.AppendFault.{AppendFault}
use Rattle.mg_journal.specs.declared.append_fault.AppendFault.TheVariants.{Refused, Broken}
use Rattle.mg_journal.specs.declared.durability.Durability.{Durability}
use Rattle.mg_journal.specs.declared.durability.Durability.TheVariants.{Written, Synced}
use Rattle.mg_journal.specs.Text.{whole_lines}
use Rattle.mg_journal.specs.Journal.{Appends, JournalState, appended}
use Rattle.mg_journal.proofs.TextLemmas.{whole_after}
use Rattle.mg_core.specs.declared.event.Event.{Event}
use Rattle.mg_core.specs.declared.event.Event.TheVariants.{Control}
use Rattle.mg_core.specs.ExceptReceived.{lasting}
use Rattle.mg_core.specs.Recording.{RecordingsAreRead}
use Rattle.mg_core.specs.Script.{events_of}
use Rattle.mg_core.specs.Counted.{journal_lines}
use Rattle.mg_ports.specs.declared.call.Call.{Call}
use Rattle.mg_ports.specs.declared.call.Call.TheVariants.{Receive, Send, BeginTick, Append, Renew}
use Rattle.mg_ports.specs.Journaled.{JournalAfter}
use Rattle.mg_serve.specs.JournalLaws.{IsScriptOf, PowerLossesForgetNoAnswer, TellsEvents, is_renewal}
use Rattle.mg_serve.specs.Journaled.{Lacks, Journals}
use Rattle.mg_serve.specs.Trace.{TraceEntry, Called, Happened, calls_of, events_of_trace}
use Rattle.mg_serve.proofs.JournalAnswers.{journals_of, tells_at}
use Rattle.mg_serve.proofs.JournalCrashes.{moment_told}
use Rattle.mg_serve.proofs.JournalSteps.{after_parts, journals_parts, unrenewed_parts}
use Rattle.mg_serve.proofs.Printing.{calls_both}
use Rattle.mg_serve.proofs.JournalText.{Tells, cut_script}

-- The text `base` is on the disk. Text after it may be on the disk too.
pub record IsOnDisk (base : List ℕ) (journal : JournalState) : Type 0 where
  pub sure : List ℕ
  pub more : List ℕ
  pub synced : journal.synced ≡ Some (base ++ sure)
  pub text : journal.text ≡ Some ((base ++ sure) ++ more)

-- If the text at the start is known, it is on the disk.
abbrev Rests : Option (List ℕ) → JournalState → Type 0
Rests None journal = journal.text ≡ None
Rests (Some base) journal = IsOnDisk base journal

all_synced : (known : Option (List ℕ)) (journal : JournalState) → journal.text ≡ known → journal.synced ≡ journal.text
    → Rests known journal
all_synced None journal is synced = is
all_synced (Some base) journal is synced = record {
  sure = [];
  more = [];
  synced = synced ∙ (is ∙ ap (λ (l : List ℕ). Some l) (sym (append-nil base)));
  text = is ∙ ap (λ (l : List ℕ). Some l) (sym (append-nil base) ∙ sym (append-nil (base ++ [])));
}

-- ## The disk after appends

unknown_grows : (old : JournalState) (part : List ℕ) → old.text ≡ None → append_known old.text part ≡ None
unknown_grows old part none = ap (λ (o : Option (List ℕ)). append_known o part) none

known_grows : (base part : List ℕ) (old : JournalState) → (on : IsOnDisk base old)
    → append_known old.text part ≡ Some ((base ++ on.sure) ++ (on.more ++ part))
known_grows base part old on =
    ap (λ (o : Option (List ℕ)). append_known o part) on.text
    ∙ ap (λ (l : List ℕ). Some l) (append_assoc (base ++ on.sure) on.more part)

written_on : (base part : List ℕ) (old : JournalState) → IsOnDisk base old → IsOnDisk base (appended part Written old)
written_on base part old on = record {
  sure = on.sure;
  more = on.more ++ part;
  synced = on.synced;
  text = known_grows base part old on;
}

synced_on : (base part : List ℕ) (old : JournalState) → IsOnDisk base old → IsOnDisk base (appended part Synced old)
synced_on base part old on =
    let sure = on.sure ++ (on.more ++ part) in
    let is : append_known old.text part ≡ Some (base ++ sure) =
    known_grows base part old on ∙ ap (λ (l : List ℕ). Some l) (append_assoc base on.sure (on.more ++ part)) in
    record {
      sure = sure;
      more = [];
      synced = is;
      text = is ∙ ap (λ (l : List ℕ). Some l) (sym (append-nil (base ++ sure)));
    }

append_rests : (known : Option (List ℕ)) (part : List ℕ) (how : Durability) (result : Result (Unit {0}) AppendFault)
    (old new : JournalState) → Rests known old → Appends part how old new result → Rests known new
append_rests None part how (Ok done) old new rests (works, is) =
    ap (λ (j : JournalState). j.text) is ∙ unknown_grows old part rests
append_rests (Some base) part Written (Ok done) old new rests (works, is) =
    subst (λ (j : JournalState). IsOnDisk base j) (sym is) (written_on base part old rests)
append_rests (Some base) part Synced (Ok done) old new rests (works, is) =
    subst (λ (j : JournalState). IsOnDisk base j) (sym is) (synced_on base part old rests)
append_rests known part how (Err Refused) old new rests (works, is) =
    subst (λ (j : JournalState). Rests known j) (sym is) rests
append_rests None part how (Err Broken) old new rests breaks =
    ap (λ (j : JournalState). j.text) breaks.state ∙ unknown_grows old (whole_lines (take breaks.front part)) rests
append_rests (Some base) part how (Err Broken) old new rests breaks =
    let lines = whole_lines (take breaks.front part) in
    subst (λ (j : JournalState). IsOnDisk base j) (sym breaks.state)
    (record { sure = rests.sure; more = rests.more ++ lines; synced = rests.synced; text = known_grows base lines old rests })

calls_rest : (known : Option (List ℕ)) (calls : List Call) (old new : JournalState) → Rests known old
    → list_any is_renewal calls ≡ false → JournalAfter calls old new → Rests known new
calls_rest known [] old new rests stays after = subst (λ (j : JournalState). Rests known j) (sym after) rests
calls_rest known (Append lines how result ∷ calls) old new rests stays (mid, (seal, comment, sealed, dated, appends), after) =
    calls_rest known calls mid new (append_rests known (seal ++ (comment ++ lines)) how result old mid rests appends) stays after
calls_rest known (Renew text how (Ok done) ∷ calls) old new rests stays after = absurd cc
calls_rest known (Renew text how (Err fault) ∷ calls) old new rests stays (mid, (follows, comment, follow, dated, kept), after) =
    calls_rest known calls mid new (subst (λ (j : JournalState). Rests known j) (sym kept) rests) stays after
calls_rest known (Receive socket receipt ∷ calls) old new rests stays after = calls_rest known calls old new rests stays after
calls_rest known (Send socket to bytes ∷ calls) old new rests stays after = calls_rest known calls old new rests stays after
calls_rest known (BeginTick timing ∷ calls) old new rests stays after = calls_rest known calls old new rests stays after

-- ## Power losses forget no answer

same_text : (a b : List ℕ) → Some a ≡ Some b → a ≡ b
same_text a b h = cc

same_events : (a b : List Event) → Some a ≡ Some b → a ≡ b
same_events a b h = cc

-- Suppose text begins with a complete script. Then the events in the complete lines of the text begin with the events
-- of this script.
begins_with : (base rest cut : List ℕ) (before first : List Event) → IsScriptOf base before → cut ≡ base ++ rest
    → IsScriptOf (whole_lines cut) first → (others : List Event) × (first ≡ before ++ others)
begins_with base rest cut before first one is script =
    let whole : whole_lines cut ≡ base ++ whole_lines rest = ap whole_lines is ∙ whole_after base rest one.0 in
    let (fs, gs, parts, front) = cut_script false (whole_lines cut) base (whole_lines rest) first whole script in
    let same : fs ≡ before =
    same_events fs before (sym front.1 ∙ (ap (λ (l : List ℕ). events_of (journal_lines true l)) one.0 ∙ one.1)) in
    (gs, parts ∙ ap (λ (l : List Event). l ++ gs) same)

kept_on : (preface : List ℕ) (known : Option (List ℕ)) (before all : List Event) (journal : JournalState)
    (synced more lost : List ℕ) → Rests known journal → Tells preface known before → TellsEvents preface journal all
    → journal.synced ≡ Some synced → journal.text ≡ Some ((synced ++ more) ++ lost)
    → (others : List Event) × (cut : List ℕ) × (synced ++ more ≡ preface ++ cut)
    × IsScriptOf (whole_lines cut) (before ++ others)
kept_on preface None before all journal synced more lost rests told tells is text =
    let never : None ≡ Some ((synced ++ more) ++ lost) = sym rests ∙ text in
    absurd cc
kept_on preface (Some base) before all journal synced more lost rests (early, starts, script, marks) tells is text =
    let (tail, parts, whole, marked) =
    subst (λ (o : Option (List ℕ)). Tells preface o all) text tells in
    let cut = early ++ (rests.sure ++ more) in
    let here : synced ++ more ≡ preface ++ cut =
    ap (λ (l : List ℕ). l ++ more) (same_text synced (base ++ rests.sure) (sym is ∙ rests.synced))
    ∙ (append_assoc base rests.sure more ∙ (ap (λ (l : List ℕ). l ++ (rests.sure ++ more)) starts
    ∙ append_assoc preface early (rests.sure ++ more))) in
    let left : tail ≡ cut ++ lost =
    append_cancel_left preface tail (cut ++ lost)
    (sym parts ∙ (ap (λ (l : List ℕ). l ++ lost) here ∙ append_assoc preface cut lost)) in
    let (first, gs, apart, front) = cut_script false tail cut lost all left whole in
    let (others, begins) = begins_with early (rests.sure ++ more) cut before first script refl front in
    (others, cut, here, subst (λ (l : List Event). IsScriptOf (whole_lines cut) l) begins front)

pub power_losses : RecordingsAreRead → PowerLossesForgetNoAnswer
power_losses read setup preface w told before later rest to bytes answer journal synced more lost moment short is text =
    let front = before ++ Happened (Control to bytes) ∷ [] in
    let entry = Called (Send 0 to answer) in
    let (mid, first, after) =
    after_parts (calls_of front) (calls_of (entry ∷ later)) moment.start journal
    (subst (λ (l : List Call). JournalAfter l moment.start journal) (calls_both front (entry ∷ later)) moment.after) in
    let none = unrenewed_parts front (entry ∷ later) moment.unrenewed in
    let (progress, js, others) =
    journals_parts Synced (Lacks 0) (Lacks moment.lacking) front (entry ∷ (later ++ rest))
    (subst (λ (l : List TraceEntry). Journals Synced (Lacks 0) l (Lacks moment.lacking)) (append_assoc front (entry ∷ later) rest)
    (journals_of setup Synced ((front ++ entry ∷ later) ++ rest) moment.lacking moment.has moment.lacks)) in
    let here = tells_at read Synced preface told before to bytes progress moment.start mid moment.tells js none.0 first short in
    let (reached, all, (written, tells, loses)) =
    moment_told read setup Synced preface w told (front ++ entry ∷ later) rest journal moment in
    kept_on preface mid.text (told ++ lasting (events_of_trace front)) (told ++ written) journal synced more lost
    (calls_rest mid.text (calls_of (entry ∷ later)) mid journal (all_synced mid.text mid refl (here.1 refl)) none.1 after)
    here.0 tells is text
