-- Appending lines to a journal in a file.
use Rattle.std.proofs.Common.{◌≡◌, ℕ, ◌+◌, ◌≤◌, Bool, true, false, List, [], ◌++◌, length, take, drop, Option, Some, None, Ok, Err, IfSome, refl, ap, sym, ◌∙◌, subst, arith, append_assoc, append-nil, length-append}
use Rattle.std.proofs.lemmas.List.{take_at, take_all}
use Rattle.std.proofs.Math.Seq.{take-add, take-length}
use Rattle.std.specs.Prelude.{if◌then◌else◌}
use Rattle.std.specs.Option.{option_map}
use Rattle.std.specs.Io.KnownBytes.{append_known}
use Rattle.mg_journal.specs.declared.append_fault.AppendFault.{AppendFault}
use Rattle.mg_journal.specs.declared.append_fault.AppendFault.TheVariants.{Refused, Broken}
use Rattle.mg_journal.specs.declared.durability.Durability.{Durability}
use Rattle.mg_journal.specs.declared.durability.Durability.TheVariants.{Written, Synced}
use Rattle.mg_journal.specs.Text.{whole_lines, IsWhole}
use Rattle.mg_journal.specs.Journal.{JournalState, Appends, is_final, is_synced}
use Rattle.mg_journal.specs.JournalFile.{FileState, grown, cut_to, synced}
use Rattle.mg_journal.specs.aids.Appending.{IsJournal, Leaves, journal_in}
use Rattle.mg_journal.proofs.TextLemmas.{whole_after, whole_more}

abbrev state : (text synced : Option (List ℕ)) (is_broken : Bool) → JournalState
state text synced is_broken = record { text = text; synced = synced; is_broken = is_broken }

abbrev file_state : (bytes synced : Option (List ℕ)) → FileState
file_state bytes synced = record { bytes = bytes; synced = synced }

known_nil : (known : Option (List ℕ)) → append_known known [] ≡ known
known_nil None = refl
known_nil (Some bytes) = ap (λ l. Some l) (append-nil bytes)

known_more : (known : Option (List ℕ)) (x y : List ℕ) → append_known (append_known known x) y ≡ append_known known (x ++ y)
known_more None x y = refl
known_more (Some bytes) x y = ap (λ l. Some l) (append_assoc bytes x y)

pub grown_nil : (file : FileState) → grown file [] ≡ file
grown_nil file = ap (λ (known : Option (List ℕ)). record file { bytes = known }) (known_nil file.bytes)

pub grown_more : (file : FileState) (x y : List ℕ) → grown (grown file x) y ≡ grown file (x ++ y)
grown_more file x y = ap (λ (known : Option (List ℕ)). record file { bytes = known }) (known_more file.bytes x y)

-- If the first `at` bytes of the text were written, and then the next `n` bytes, the first `at + n` bytes were written.
pub front_more : (file mid new : FileState) (text : List ℕ) (at n : ℕ) → mid ≡ grown file (take at text)
    → new ≡ grown mid (take n (drop at text)) → new ≡ grown file (take (at + n) text)
front_more file mid new text at n front more =
    more ∙ (ap (λ f. grown f (take n (drop at text))) front ∙ (grown_more file (take at text) (take n (drop at text))
    ∙ ap (λ l. grown file l) (sym (take-add at n text))))

-- ## The journal in a file after an append

abbrev Whole : Option (List ℕ) → ℕ → Type 0
Whole known len = IfSome known (λ bytes. IsWhole bytes × (length bytes ≡ len))

abbrev Within : Option (List ℕ) → ℕ → Type 0
Within known len = IfSome known (λ bytes. length bytes ≤ len)

abbrev text_in : Option (List ℕ) → Option (List ℕ)
text_in known = option_map whole_lines known

text_more : (known : Option (List ℕ)) (len : ℕ) (more : List ℕ) → Whole known len
    → text_in (append_known known more) ≡ append_known (text_in known) (whole_lines more)
text_more None len more on = refl
text_more (Some bytes) len more on =
    ap (λ l. Some l) (whole_after bytes more on.0 ∙ ap (λ l. l ++ whole_lines more) (sym on.0))

text_grown : (known : Option (List ℕ)) (len : ℕ) (lines : List ℕ) → Whole known len → IsWhole lines
    → text_in (append_known known lines) ≡ append_known (text_in known) lines
text_grown known len lines on whole =
    text_more known len lines on ∙ ap (λ l. append_known (text_in known) l) whole

whole_grown : (known : Option (List ℕ)) (len : ℕ) (lines : List ℕ) → Whole known len → IsWhole lines
    → Whole (append_known known lines) (len + length lines)
whole_grown None len lines on whole = tt
whole_grown (Some bytes) len lines on whole =
    (whole_more bytes lines on.0 whole, length-append bytes lines ∙ ap (λ n. n + length lines) on.1)

within_grown : (known : Option (List ℕ)) (len more : ℕ) → Within known len → Within known (len + more)
within_grown None len more on = tt
within_grown (Some bytes) len more on = omega (arith, on)

within_whole : (known : Option (List ℕ)) (len : ℕ) → Whole known len → Within known len
within_whole None len on = tt
within_whole (Some bytes) len on = omega (arith, on.1)

-- If all lines were written, and synced if the durability demands it, the append succeeds.
pub put : (durability : Durability) (file new : FileState) (len : ℕ) (lines : List ℕ) → IsJournal file len false
    → IsWhole lines → new ≡ (if is_synced durability then synced (grown file lines) else grown file lines)
    → IsJournal new (len + length lines) false
    × Appends lines durability (journal_in file false) (journal_in new false) (Ok tt)
put Synced file new len lines on whole is =
    let text = text_grown file.bytes len lines on.0 whole in
    let fits = whole_grown file.bytes len lines on.0 whole in (
      subst (λ (f : FileState). IsJournal f (len + length lines) false) (sym is)
          (fits, within_whole (append_known file.bytes lines) (len + length lines) fits),
      (refl, ap (λ (f : FileState). journal_in f false) is ∙ ap (λ (known : Option (List ℕ)). state known known false) text),
    )
put Written file new len lines on whole is =
    let text = text_grown file.bytes len lines on.0 whole in (
      subst (λ (f : FileState). IsJournal f (len + length lines) false) (sym is)
          (whole_grown file.bytes len lines on.0 whole, within_grown file.synced len (length lines) on.1),
      (
        refl,
        ap (λ (f : FileState). journal_in f false) is
            ∙ ap (λ (known : Option (List ℕ)). state known (text_in file.synced) false) text,
      ),
    )

cut_bytes : (known : Option (List ℕ)) (len : ℕ) (more : List ℕ) → Whole known len
    → option_map (λ bytes. take len bytes) (append_known known more) ≡ known
cut_bytes None len more on = refl
cut_bytes (Some bytes) len more on = ap (λ l. Some l) (take_at bytes more len on.1)

cut_synced : (known : Option (List ℕ)) (len : ℕ) → Within known len
    → option_map (λ bytes. take len bytes) known ≡ known
cut_synced None len on = refl
cut_synced (Some bytes) len on = ap (λ l. Some l) (take_all len bytes on)

-- Truncating a file to its old length undoes a write.
pub cut_off : (file : FileState) (len : ℕ) (more : List ℕ) → IsJournal file len false → cut_to len (grown file more) ≡ file
cut_off file len more on =
    ap (λ (known : Option (List ℕ)). file_state known (option_map (λ bytes. take len bytes) file.synced)) (cut_bytes file.bytes len more on.0)
    ∙ ap (λ (known : Option (List ℕ)). file_state file.bytes known) (cut_synced file.synced len on.1)

-- If an append fails, the journal is either unchanged or broken.
pub left : (fault : AppendFault) (durability : Durability) (file new : FileState) (len : ℕ) (lines : List ℕ)
    → IsJournal file len false → Leaves lines len file new fault
    → IsJournal new len (is_final fault)
    × Appends lines durability (journal_in file false) (journal_in new (is_final fault)) (Err fault)
left Refused durability file new len lines on is =
    let same : new ≡ file = is.1 ∙ cut_off file len (take is.0 lines) on in (
      subst (λ (f : FileState). IsJournal f len false) (sym same) on,
      (refl, ap (λ (f : FileState). journal_in f false) same),
    )
left Broken durability file new len lines on is = (
  tt,
  record {
    front = is.0;
    state = ap (λ (f : FileState). journal_in f true) is.1
        ∙ ap (λ (known : Option (List ℕ)). state known (text_in file.synced) true) (text_more file.bytes len (take is.0 lines) on.0);
    none = λ was. absurd cc;
  },
)

-- ## Appends to a journal that isn't broken

pub put_as : (was : Bool) (durability : Durability) (file new : FileState) (len : ℕ) (lines : List ℕ) → was ≡ false
    → IsJournal file len was → IsWhole lines
    → new ≡ (if is_synced durability then synced (grown file lines) else grown file lines)
    → IsJournal new (len + length lines) was
    × Appends lines durability (journal_in file was) (journal_in new was) (Ok tt)
put_as true durability file new len lines works on whole is = absurd cc
put_as false durability file new len lines works on whole is = put durability file new len lines on whole is

pub left_as : (was : Bool) (fault : AppendFault) (durability : Durability) (file new : FileState) (len : ℕ) (lines : List ℕ)
    → was ≡ false → IsJournal file len was → Leaves lines len file new fault
    → IsJournal new len (is_final fault)
    × Appends lines durability (journal_in file was) (journal_in new (is_final fault)) (Err fault)
left_as true fault durability file new len lines works on is = absurd cc
left_as false fault durability file new len lines works on is = left fault durability file new len lines on is

-- An append to a broken journal changes nothing.
pub still_broken : (old : JournalState) (durability : Durability) (lines : List ℕ) → old.is_broken ≡ true
    → Appends lines durability old old (Err Broken)
unfolding whole_lines
still_broken old durability lines broken = record {
  front = 0;
  state = ap (λ (known : Option (List ℕ)). state known old.synced old.is_broken) (sym (known_nil old.text))
      ∙ ap (λ (b : Bool). state (append_known old.text []) old.synced b) broken;
  none = λ was. refl;
}

-- If all the lines were written, a prefix of the lines was written.
pub all_left : (file mid new : FileState) (lines : List ℕ) → mid ≡ grown file lines → new ≡ mid
    → new ≡ grown file (take (length lines) lines)
all_left file mid new lines whole same = same ∙ (whole ∙ ap (λ l. grown file l) (sym (take-length lines)))
