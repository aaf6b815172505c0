-- The hash of the last part of a journal's file.
use Rattle.std.proofs.Common.{◌≡◌, ℕ, Bool, true, false, List, ◌++◌, length, take, Option, Some, None, Result, Ok, Err, IfSome, OnOk, refl, sym, ◌∙◌, subst, arith}
use Rattle.std.proofs.lemmas.List.{take_all}
use Rattle.std.specs.Prelude.{if◌then◌else◌}
use Rattle.std.specs.Option.{option_map}
use Rattle.std.specs.Io.KnownBytes.{append_known}
use Rattle.sha2.specs.declared.Sha256.{Sha256}
use Rattle.sha2.specs.Hashers.{Holds256}
use Rattle.mg_chain.specs.Seals.{IsSealEnd, is_whole, last_part, seal_end}
use Rattle.mg_journal.specs.declared.append_fault.AppendFault.{AppendFault}
use Rattle.mg_journal.specs.declared.append_fault.AppendFault.TheVariants.{Refused, Broken}
use Rattle.mg_journal.specs.declared.durability.Durability.{Durability}
use Rattle.mg_journal.specs.declared.durability.Durability.TheVariants.{Written, Synced}
use Rattle.mg_journal.specs.declared.extent.Extent.{Extent}
use Rattle.mg_journal.specs.Journal.{is_final, is_synced, text_to_seal}
use Rattle.mg_journal.specs.Text.{IsWhole, whole_lines}
use Rattle.mg_journal.specs.JournalFile.{FileState, Changes, cut_to, grown, synced}
use Rattle.mg_journal.specs.aids.Appending.{IsHashed, IsJournal, Leaves, journal_in}
use Rattle.mg_journal.specs.aids.LastPart.{HasHash}
use Rattle.mg_journal.specs.aids.Opening.{HasExtent, IsExtent}
use Rattle.mg_journal.proofs.AppendLemmas.{cut_off}
use Rattle.mg_journal.proofs.TextLemmas.{is_whole_of}

abbrev Adds : (old new : Sha256) → List ℕ → Type 0
Adds old new lines =
    (text : List ℕ) → is_whole text ≡ true → Holds256 old (last_part text) → Holds256 new (last_part (text ++ lines))

grown_of : (known : Option (List ℕ)) (len : ℕ) (lines : List ℕ) (old new : Sha256)
    → IfSome known (λ bytes. IsWhole bytes × (length bytes ≡ len)) → Adds old new lines
    → IfSome known (λ bytes. Holds256 old (last_part bytes))
    → IfSome (append_known known lines) (λ bytes. Holds256 new (last_part bytes))
grown_of None len lines old new on adds holds = tt
grown_of (Some bytes) len lines old new on adds holds = adds bytes (is_whole_of bytes on.0) holds

grown_as : (durability : Durability) (file new : FileState) (len : ℕ) (lines : List ℕ) (old after : Sha256)
    → IsJournal file len false → IsHashed file old false → Adds old after lines
    → new ≡ (if is_synced durability then synced (grown file lines) else grown file lines) → IsHashed new after false
grown_as Synced file new len lines old after on holds adds is =
    subst (λ (f : FileState). IsHashed f after false) (sym is) (grown_of file.bytes len lines old after on.0 adds holds)
grown_as Written file new len lines old after on holds adds is =
    subst (λ (f : FileState). IsHashed f after false) (sym is) (grown_of file.bytes len lines old after on.0 adds holds)

-- After an append, the hash is still the hash of the file's last part.
pub hash_put : (was : Bool) (durability : Durability) (file new : FileState) (len : ℕ) (lines : List ℕ) (old after : Sha256)
    → was ≡ false → IsJournal file len was → IsHashed file old was → Adds old after lines
    → new ≡ (if is_synced durability then synced (grown file lines) else grown file lines) → IsHashed new after was
hash_put true durability file new len lines old after works on holds adds is = absurd cc
hash_put false durability file new len lines old after works on holds adds is =
    grown_as durability file new len lines old after on holds adds is

-- After a failed append, the hash is still the hash of the file's last part, unless the journal is broken.
left : (fault : AppendFault) (file new : FileState) (len : ℕ) (lines : List ℕ) (hasher : Sha256)
    → IsJournal file len false → IsHashed file hasher false → Leaves lines len file new fault
    → IsHashed new hasher (is_final fault)
left Refused file new len lines hasher on holds is =
    subst (λ (f : FileState). IsHashed f hasher false) (sym (is.1 ∙ cut_off file len (take is.0 lines) on)) holds
left Broken file new len lines hasher on holds is = tt

pub hash_left : (was : Bool) (fault : AppendFault) (file new : FileState) (len : ℕ) (lines : List ℕ) (hasher : Sha256)
    → was ≡ false → IsJournal file len was → IsHashed file hasher was → Leaves lines len file new fault
    → IsHashed new hasher (is_final fault)
hash_left true fault file new len lines hasher works on holds is = absurd cc
hash_left false fault file new len lines hasher works on holds is = left fault file new len lines hasher on holds is

-- ## Truncating

cut_of : (known : Option (List ℕ)) (len : ℕ) (hasher : Sha256) → IfSome known (λ bytes. Holds256 hasher (last_part (take len bytes)))
    → IfSome (option_map (λ bytes. take len bytes) known) (λ bytes. Holds256 hasher (last_part bytes))
cut_of None len hasher holds = tt
cut_of (Some bytes) len hasher holds = holds

pub hash_cut : {E : Type 0} (result : Result (Unit {0}) E) (file new : FileState) (extent : Extent) (hasher : Sha256)
    → Changes (cut_to extent.whole) file new result → HasHash file extent.whole hasher → OnOk result (IsHashed new hasher false)
hash_cut (Ok done) file new extent hasher cut holds =
    subst (λ (f : FileState). IsHashed f hasher false) (sym cut) (cut_of file.bytes extent.whole hasher holds)
hash_cut (Err error) file new extent hasher cut holds = tt

whole_of : (known : Option (List ℕ)) (extent : Extent) (hasher : Sha256) → extent.whole ≡ extent.all
    → IfSome known (λ bytes. IsExtent extent bytes) → IfSome known (λ bytes. Holds256 hasher (last_part (take extent.whole bytes)))
    → IfSome known (λ bytes. Holds256 hasher (last_part bytes))
whole_of None extent hasher all is holds = tt
whole_of (Some bytes) extent hasher all is holds =
    subst (λ (l : List ℕ). Holds256 hasher (last_part l)) (take_all extent.whole bytes (omega (arith, is.1, all))) holds

-- If there is no partial last line, the hash of the complete lines is the hash of the whole file.
pub hash_whole : (file : FileState) (extent : Extent) (hasher : Sha256) → extent.whole ≡ extent.all → HasExtent file extent
    → HasHash file extent.whole hasher → IsHashed file hasher false
hash_whole file extent hasher all is holds = whole_of file.bytes extent hasher all is holds

-- ## Seals

seal_of_known : (known : Option (List ℕ)) (hasher : Sha256) (end text : List ℕ)
    → IfSome known (λ bytes. Holds256 hasher (last_part bytes)) → ((t : List ℕ) → Holds256 hasher t → end ≡ seal_end t)
    → Holds256 hasher text → IsSealEnd known end
seal_of_known None hasher end text holds is some = (text, is text some, tt)
seal_of_known (Some bytes) hasher end text holds is some = (last_part bytes, is (last_part bytes) holds, refl)

lines_of : (known : Option (List ℕ)) (hasher : Sha256) → IfSome known (λ bytes. IsWhole bytes)
    → IfSome known (λ bytes. Holds256 hasher (last_part bytes))
    → IfSome (option_map whole_lines known) (λ bytes. Holds256 hasher (last_part bytes))
lines_of None hasher whole holds = tt
lines_of (Some bytes) hasher whole holds = subst (λ (l : List ℕ). Holds256 hasher (last_part l)) (sym whole) holds

wholes : (known : Option (List ℕ)) (len : ℕ) → IfSome known (λ bytes. IsWhole bytes × (length bytes ≡ len))
    → IfSome known (λ bytes. IsWhole bytes)
wholes None len on = tt
wholes (Some bytes) len on = on.0

-- The end of the seal is computed from the hash of the journal's last part.
pub sealed : (file : FileState) (was : Bool) (len : ℕ) (hasher : Sha256) (end : List ℕ) → IsJournal file len was
    → IsHashed file hasher was → ((t : List ℕ) → Holds256 hasher t → end ≡ seal_end t)
    → ((text : List ℕ) × Holds256 hasher text) → IsSealEnd (text_to_seal (journal_in file was)) end
sealed file true len hasher end on holds is some = (some.0, is some.0 some.1, tt)
sealed file false len hasher end on holds is some =
    seal_of_known (option_map whole_lines file.bytes) hasher end some.0
    (lines_of file.bytes hasher (wholes file.bytes len on.0) holds) is some.1
