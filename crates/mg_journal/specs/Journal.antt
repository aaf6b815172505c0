-- The effect of an append on a journal.
use Rattle.std.specs.Prelude.{◌≡◌, ℕ, Bool, true, false, List, [], take, Option, None, Result, Ok}
use Rattle.std.specs.Prelude.{Err, if◌then◌else◌}
use Rattle.std.specs.Option.{option_map}
use Rattle.std.specs.Io.KnownBytes.{append_known}
use Rattle.mg_journal.specs.declared.append_fault.AppendFault.{AppendFault}
use Rattle.mg_journal.specs.declared.append_fault.AppendFault.TheVariants.{Refused, Broken}
use Rattle.mg_journal.specs.declared.durability.Durability.{Durability}
use Rattle.mg_journal.specs.declared.durability.Durability.TheVariants.{Written, Synced}
use Rattle.mg_journal.specs.Text.{whole_lines}

-- The known state of a journal. Its text is the complete lines that a reader finds, oldest first. An unknown text stays
-- unknown.
pub record JournalState : Type 0 where
  pub text : Option (List ℕ)
  pub synced : Option (List ℕ)
  pub is_broken : Bool

-- The state of a journal that doesn't exist. Each append to it fails.
abbrev pub no_journal : JournalState
no_journal = record { text = None; synced = None; is_broken = true }

-- The text whose last part the next seal hashes. A broken journal has no such text.
abbrev pub text_to_seal : JournalState → Option (List ℕ)
text_to_seal journal = if journal.is_broken then None else journal.text

-- Whether a fault breaks the journal, so that each later append fails, until the journal is renewed.
abbrev pub is_final : AppendFault → Bool
is_final Refused = false
is_final Broken = true

abbrev pub is_synced : Durability → Bool
is_synced Written = false
is_synced Synced = true

-- The text grew by these lines. If the append was synced, all of the text is on the disk.
abbrev pub appended : List ℕ → Durability → JournalState → JournalState
appended lines durability old = record old {
  text = append_known old.text lines;
  synced = if is_synced durability then append_known old.text lines else old.synced;
}

-- The journal is broken: some, all or none of the lines were written. If the journal was already broken, no lines were
-- written.
pub record Breaks (lines : List ℕ) (old new : JournalState) : Type 0 where
  pub front : ℕ
  pub state : new ≡ record old {
    text = append_known old.text (whole_lines (take front lines));
    is_broken = true;
  }
  pub none : old.is_broken ≡ true → new ≡ old

-- The lines were appended, or nothing changed, or the journal is broken. A broken journal stays
-- broken.
abbrev pub Appends : List ℕ → Durability → JournalState → JournalState
    → Result (Unit {0}) AppendFault → Type 0
Appends lines durability old new (Ok done) =
    (old.is_broken ≡ false) × (new ≡ appended lines durability old)
Appends lines durability old new (Err Refused) = (old.is_broken ≡ false) × (new ≡ old)
Appends lines durability old new (Err Broken) = Breaks lines old new

-- The journal after another one with this text has taken its place. It isn't broken.
abbrev pub renewed : List ℕ → Durability → JournalState → JournalState
renewed text durability old = record {
  text = option_map (λ before. text) old.text;
  synced = if is_synced durability then option_map (λ before. text) old.text else option_map (λ before. []) old.synced;
  is_broken = false;
}
