-- The line that says which journal a text follows.
use Rattle.std.proofs.Common.{◌≡◌, ℕ, List, [], ◌∷◌, ◌++◌, codes, Option, Some, None, Result, Err, refl, sym, ap, ◌∙◌, subst, inl, append_assoc, append-nil}
use Rattle.mg_chain.specs.Seals.{IsFollowing, IsSealEnd, last_part, seal_end}
use Rattle.mg_journal.specs.declared.append_fault.AppendFault.{AppendFault}
use Rattle.mg_journal.specs.declared.durability.Durability.{Durability}
use Rattle.mg_journal.specs.Journal.{JournalState, renewed, text_to_seal}
use Rattle.mg_journal.specs.JournalFile.{Changes}
use Rattle.mg_journal.specs.Text.{EndsInLineFeed}
use Rattle.mg_journal.proofs.TextLemmas.{ends_line}
use Rattle.mg_ports.specs.Journaled.{RenewsDated}

some_end : (known : Option (List ℕ)) → (end : List ℕ) × IsSealEnd known end
some_end None = (seal_end [], ([], refl, tt))
some_end (Some text) = (seal_end (last_part text), (last_part text, refl, refl))

-- If nothing changed, `RenewsDated` holds for every fault.
pub unchanged : (text : List ℕ) (durability : Durability) (state : JournalState) (fault : AppendFault)
    → RenewsDated text durability state state (Err fault)
unchanged text durability state fault =
    let end = some_end (text_to_seal state) in
    (codes "# follows " ++ end.0, [], (end.0, end.1, refl), inl refl, refl)

ends_joined : (digits text mark : List ℕ) → EndsInLineFeed (text ++ (mark ++ (digits ++ 10 ∷ [])))
ends_joined digits text mark =
    subst EndsInLineFeed (append_assoc text (mark ++ digits) (10 ∷ [])
    ∙ ap (λ (l : List ℕ). text ++ l) (append_assoc mark digits (10 ∷ []))) (ends_line (text ++ (mark ++ digits)))

-- A text with that line at its end ends in a line feed.
pub follows_feed : (known : Option (List ℕ)) (text end new : List ℕ) → IsSealEnd known end
    → new ≡ text ++ (codes "# follows " ++ end) → EndsInLineFeed new
follows_feed known text end new (part, is, same) joined =
    let feed : EndsInLineFeed (text ++ (codes "# follows " ++ seal_end part)) = ends_joined _ text (codes "# follows ") in
    subst EndsInLineFeed (sym (joined ∙ ap (λ (l : List ℕ). text ++ (codes "# follows " ++ l)) is)) feed

-- If a journal was renewed with a text and that line, `RenewsDated` holds.
pub renews_joined : (text end written : List ℕ) (durability : Durability) (old new : JournalState)
    (result : Result (Unit {0}) AppendFault) → IsSealEnd (text_to_seal old) end
    → written ≡ text ++ (codes "# follows " ++ end) → Changes (renewed written durability) old new result
    → RenewsDated text durability old new result
renews_joined text end written durability old new result is joined changed = (
  codes "# follows " ++ end,
  [],
  (end, is, refl),
  inl refl,
  subst (λ (l : List ℕ). Changes (renewed l durability) old new result)
      (joined ∙ ap (λ (l : List ℕ). text ++ l) (sym (append-nil (codes "# follows " ++ end)))) changed,
)
