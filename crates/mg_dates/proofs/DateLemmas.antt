-- Lines appended after a seal and a date.
use Rattle.std.proofs.Common.{◌≡◌, ◌≢◌, ◌⊎◌, ℕ, List, [], ◌++◌, codes, Option, Result, refl, sym, ap, ◌∙◌, subst, inl, inr, arith, append_assoc, length-append}
use Rattle.std.proofs.lemmas.List.Elements.{All-append}
use Rattle.mg_chain.proofs.SealLemmas.{plain}
use Rattle.mg_chain.specs.Seals.{IsSeal}
use Rattle.mg_journal.specs.declared.append_fault.AppendFault.{AppendFault}
use Rattle.mg_journal.specs.declared.durability.Durability.{Durability}
use Rattle.mg_journal.specs.Journal.{JournalState, Appends, renewed, text_to_seal}
use Rattle.mg_journal.specs.JournalFile.{Changes}
use Rattle.mg_journal.specs.Text.{EndsInLineFeed}
use Rattle.mg_journal.proofs.TextLemmas.{ends_line}
use Rattle.mg_ports.specs.Journaled.{AppendsDated, IsComment, RenewsDated}
use Rattle.mg_dates.specs.aids.Texts.{IsJoined, IsShortLine}

grouped : (seal mark text feed lines : List ℕ)
    → (((seal ++ mark) ++ text) ++ feed) ++ lines ≡ seal ++ ((mark ++ (text ++ feed)) ++ lines)
grouped seal mark text feed lines =
    ap (λ (l : List ℕ). (l ++ feed) ++ lines) (append_assoc seal mark text)
    ∙ (ap (λ (l : List ℕ). l ++ lines) (append_assoc seal (mark ++ text) feed)
    ∙ (append_assoc seal ((mark ++ text) ++ feed) lines
    ∙ ap (λ (l : List ℕ). seal ++ (l ++ lines)) (append_assoc mark text feed)))

-- If only the lines were appended, without a seal and a date, `AppendsDated` holds.
pub undated : (lines : List ℕ) (durability : Durability) (old new : JournalState)
    (result : Result (Unit {0}) AppendFault) → Appends lines durability old new result
    → AppendsDated lines durability old new result
undated lines durability old new result appends = ([], [], inl refl, inl refl, appends)

is_comment : (text : List ℕ) → IsShortLine text → IsComment (codes "# time " ++ (text ++ codes "\n"))
is_comment text short = (
  codes "time " ++ text,
  refl,
  omega (arith, short.0, length-append (codes "time ") text),
  All-append (λ b. b ≢ 10) (codes "time ") text (plain (codes "time ") refl) short.1,
)

-- If the lines were appended after a line with a date, and perhaps a seal before the date, `AppendsDated` holds.
pub dates : (seal text lines written : List ℕ) (durability : Durability) (old new : JournalState)
    (result : Result (Unit {0}) AppendFault) → (seal ≡ []) ⊎ IsSeal (text_to_seal old) seal → IsShortLine text
    → written ≡ (((seal ++ codes "# time ") ++ text) ++ codes "\n") ++ lines
    → Appends written durability old new result → AppendsDated lines durability old new result
dates seal text lines written durability old new result sealed short is appends = (
  seal,
  codes "# time " ++ (text ++ codes "\n"),
  sealed,
  inr (is_comment text short, refl),
  subst (λ (l : List ℕ). Appends l durability old new result) (is ∙ grouped seal (codes "# time ") text (codes "\n") lines)
      appends,
)

-- If the journal was replaced by a text that is joined to it, `RenewsDated` holds.
pub renews : (text date written : List ℕ) (durability : Durability) (old new : JournalState)
    (result : Result (Unit {0}) AppendFault) → IsShortLine date → IsJoined (text_to_seal old) date text written
    → Changes (renewed written durability) old new result → RenewsDated text durability old new result
renews text date written durability old new result short joint changed = (
  joint.follows,
  codes "# time " ++ (date ++ codes "\n"),
  joint.is,
  inr (is_comment date short, refl),
  subst (λ (l : List ℕ). Changes (renewed l durability) old new result) joint.joined changed,
)

regrouped : (old follows mark date feed : List ℕ)
    → old ++ (follows ++ (mark ++ (date ++ feed))) ≡ (old ++ (follows ++ (mark ++ date))) ++ feed
regrouped old follows mark date feed =
    ap (λ (l : List ℕ). old ++ (follows ++ l)) (sym (append_assoc mark date feed))
    ∙ (ap (λ (l : List ℕ). old ++ l) (sym (append_assoc follows (mark ++ date) feed))
    ∙ sym (append_assoc old (follows ++ (mark ++ date)) feed))

-- A text that is joined to a journal ends in a line feed.
pub joined_feed : (known : Option (List ℕ)) (date old new : List ℕ) → IsJoined known date old new → EndsInLineFeed new
joined_feed known date old new joint =
    let mark = codes "# time " in
    subst EndsInLineFeed (sym (joint.joined ∙ regrouped old joint.follows mark date (codes "\n")))
    (ends_line (old ++ (joint.follows ++ (mark ++ date))))
