-- How calls on a gateway's ports change the gateway's journal.
use Rattle.std.specs.Prelude.{◌≡◌, ◌≢◌, ◌⊎◌, ℕ, ◌≤◌, false, All, List, [], ◌∷◌, ◌++◌, length, codes}
use Rattle.std.specs.Prelude.{Option, Result}
use Rattle.mg_journal.specs.declared.append_fault.AppendFault.{AppendFault}
use Rattle.mg_journal.specs.declared.durability.Durability.{Durability}
use Rattle.mg_chain.specs.Seals.{IsFollowing, IsSeal, is_seal}
use Rattle.mg_journal.specs.Journal.{JournalState, Appends, renewed, text_to_seal}
use Rattle.mg_journal.specs.JournalFile.{Changes}
use Rattle.mg_ports.specs.declared.call.Call.{Call}
use Rattle.mg_ports.specs.declared.call.Call.TheVariants.{Append, Renew}

-- The known state of ports: the calls so far, and the journal.
pub record PortsSeen : Type 0 where
  pub calls : Option (List Call)
  pub journal : JournalState

abbrev pub ports_seen : Option (List Call) → JournalState → PortsSeen
ports_seen calls journal = record { calls = calls; journal = journal }

-- The line is a comment that is not too long.
abbrev pub IsComment : List ℕ → Type 0
IsComment line =
    (text : List ℕ) × (line ≡ codes "# " ++ (text ++ codes "\n")) × (length text ≤ 1000)
    × All (λ b. b ≢ 10) text

-- Lines were appended, or the append failed. The seal of the journal's last part and another comment may precede the
-- lines.
abbrev pub AppendsDated : List ℕ → Durability → JournalState → JournalState
    → Result (Unit {0}) AppendFault → Type 0
AppendsDated lines durability old new result =
    (seal comment : List ℕ) × ((seal ≡ []) ⊎ IsSeal (text_to_seal old) seal)
    × ((comment ≡ []) ⊎ (IsComment comment × (is_seal comment ≡ false)))
    × Appends (seal ++ (comment ++ lines)) durability old new result

-- A journal with this text took the journal's place, or nothing changed. The line that says which journal the text
-- follows comes after the text, and then perhaps another comment.
abbrev pub RenewsDated : List ℕ → Durability → JournalState → JournalState
    → Result (Unit {0}) AppendFault → Type 0
RenewsDated text durability old new result =
    (follows comment : List ℕ) × IsFollowing (text_to_seal old) follows
    × ((comment ≡ []) ⊎ (IsComment comment × (is_seal comment ≡ false)))
    × Changes (renewed (text ++ (follows ++ comment)) durability) old new result

-- The journal after these calls. Each append and each renewal changes it as defined, and no other call changes it.
abbrev pub JournalAfter : List Call → JournalState → JournalState → Type 0
JournalAfter [] old new = new ≡ old
JournalAfter (Append lines durability result ∷ calls) old new =
    (mid : JournalState) × AppendsDated lines durability old mid result × JournalAfter calls mid new
JournalAfter (Renew text durability result ∷ calls) old new =
    (mid : JournalState) × RenewsDated text durability old mid result × JournalAfter calls mid new
JournalAfter (_ ∷ calls) old new = JournalAfter calls old new
