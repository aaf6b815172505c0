-- A journal whose file was replaced.
use Rattle.std.proofs.Common.{◌≡◌, ℕ, ◌≤◌, Bool, true, false, List, [], length, Option, Some, None, Ok, IfSome, refl, ap, sym, ◌∙◌, subst, arith}
use Rattle.std.specs.Prelude.{if◌then◌else◌}
use Rattle.std.specs.Option.{option_map}
use Rattle.sha2.specs.declared.Sha256.{Sha256}
use Rattle.sha2.specs.Hashers.{Holds256}
use Rattle.mg_chain.specs.Seals.{last_part}
use Rattle.mg_journal.specs.declared.durability.Durability.{Durability}
use Rattle.mg_journal.specs.declared.durability.Durability.TheVariants.{Written, Synced}
use Rattle.mg_journal.specs.Text.{whole_lines, IsWhole}
use Rattle.mg_journal.specs.Journal.{JournalState, is_synced, renewed}
use Rattle.mg_journal.specs.JournalFile.{FileState, emptied, grown, synced}
use Rattle.mg_journal.specs.aids.Appending.{IsHashed, IsJournal, journal_in, replaced}
use Rattle.std.specs.Io.KnownBytes.{append_known}

abbrev no_bytes : List ℕ
no_bytes = []

-- The bytes of the new file that are known to be on the disk.
abbrev on_disk : (bytes synced : Option (List ℕ)) → List ℕ → Durability → Option (List ℕ)
on_disk bytes synced text durability =
    if is_synced durability then option_map (λ old. text) bytes else option_map (λ (old : List ℕ). no_bytes) synced

whole : (known : Option (List ℕ)) (text : List ℕ) → IsWhole text
    → IfSome (option_map (λ old. text) known) (λ bytes. IsWhole bytes × (length bytes ≡ length text))
whole None text is = tt
whole (Some old) text is = (is, refl)

within_all : (known : Option (List ℕ)) (text : List ℕ)
    → IfSome (option_map (λ old. text) known) (λ bytes. length bytes ≤ length text)
within_all None text = tt
within_all (Some old) text = omega (arith)

within_none : (known : Option (List ℕ)) (text : List ℕ)
    → IfSome (option_map (λ (old : List ℕ). no_bytes) known) (λ (bytes : List ℕ). length bytes ≤ length text)
within_none None text = tt
within_none (Some old) text = omega (arith)

within : (bytes synced : Option (List ℕ)) (text : List ℕ) (durability : Durability)
    → IfSome (on_disk bytes synced text durability) (λ bytes. length bytes ≤ length text)
within bytes synced text Written = within_none synced text
within bytes synced text Synced = within_all bytes text

hashed : (known : Option (List ℕ)) (text : List ℕ) (hasher : Sha256) → Holds256 hasher (last_part text)
    → IfSome (option_map (λ old. text) known) (λ bytes. Holds256 hasher (last_part bytes))
hashed None text hasher holds = tt
hashed (Some old) text hasher holds = holds

text_is : (known : Option (List ℕ)) (text : List ℕ) → IsWhole text
    → option_map whole_lines (option_map (λ old. text) known) ≡ option_map (λ old. text) (option_map whole_lines known)
text_is None text is = refl
text_is (Some old) text is = ap (λ l. Some l) is

none_is : (known : Option (List ℕ))
    → option_map whole_lines (option_map (λ (old : List ℕ). no_bytes) known) ≡ option_map (λ (old : List ℕ). no_bytes) (option_map whole_lines known)
unfolding whole_lines
none_is None = refl
none_is (Some old) = refl

synced_is : (bytes synced : Option (List ℕ)) (text : List ℕ) (durability : Durability) → IsWhole text
    → option_map whole_lines (on_disk bytes synced text durability)
    ≡ on_disk (option_map whole_lines bytes) (option_map whole_lines synced) text durability
synced_is bytes synced text Written is = none_is synced
synced_is bytes synced text Synced is = text_is bytes text is

-- The file holds the text, and the hash is that of the text's last part.
pub holds : (file new : FileState) (text : List ℕ) (durability : Durability) (hasher : Sha256) → IsWhole text
    → new ≡ replaced text durability file → Holds256 hasher (last_part text)
    → IsJournal new (length text) false × IsHashed new hasher false
holds file new text durability hasher is replaces hash =
    subst (λ (f : FileState). IsJournal f (length text) false × IsHashed f hasher false) (sym replaces)
    ((whole file.bytes text is, within file.bytes file.synced text durability), hashed file.bytes text hasher hash)

abbrev state : (text synced : Option (List ℕ)) → JournalState
state text synced = record { text = text; synced = synced; is_broken = false }

-- The journal in the file has the text, whether or not it was broken before.
pub renews : (file new : FileState) (was : Bool) (text : List ℕ) (durability : Durability) → IsWhole text
    → new ≡ replaced text durability file → journal_in new false ≡ renewed text durability (journal_in file was)
renews file new was text durability is replaces =
    ap (λ (f : FileState). journal_in f false) replaces
    ∙ (ap (λ (known : Option (List ℕ)). state known (option_map whole_lines (on_disk file.bytes file.synced text durability)))
    (text_is file.bytes text is)
    ∙ ap (λ (known : Option (List ℕ)). state (option_map (λ old. text) (option_map whole_lines file.bytes)) known)
    (synced_is file.bytes file.synced text durability is))

-- ## The new file

written : (known : Option (List ℕ)) (text : List ℕ)
    → append_known (option_map (λ (old : List ℕ). no_bytes) known) text ≡ option_map (λ old. text) known
written None text = refl
written (Some old) text = refl

abbrev file_state : (bytes synced : Option (List ℕ)) → FileState
file_state bytes synced = record { bytes = bytes; synced = synced }

-- A new file into which the text was written, and which was synced if the durability demands it, is as `replaced` says.
pub put : (file : FileState) (text : List ℕ) (durability : Durability)
    → (if is_synced durability then synced (grown (emptied file) text) else grown (emptied file) text)
    ≡ replaced text durability file
put file text Written = ap (λ (known : Option (List ℕ)). file_state known (option_map (λ (old : List ℕ). no_bytes) file.synced)) (written file.bytes text)
put file text Synced = ap (λ (known : Option (List ℕ)). file_state known known) (written file.bytes text)
