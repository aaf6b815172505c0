-- Measuring, reading and truncating a file before lines are appended to it.
use Rattle.std.proofs.Common.{◌≡◌, ℕ, ◌+◌, ◌-◌, ◌<◌, ◌≤◌, false, IfOk, List, [], ◌++◌, length, take, drop, Option, Some, None, Result, Ok, Err, IfSome, OnOk, refl, ap, sym, ◌∙◌, subst, arith, append_assoc, append-nil, length-append}
use Rattle.std.proofs.lemmas.List.{drop-append-le, drop_all, length-drop, length-take, length-take-le, take-append-drop, take-append-le, take_all, take_at}
use Rattle.std.proofs.Math.Seq.{drop-append-add}
use Rattle.std.specs.Option.{option_map}
use Rattle.std.specs.Io.{StartsWith}
use Rattle.std.specs.Io.KnownBytes.{Consumes}
use Rattle.std.proofs.KnownBytes.{starts_with_rest}
use Rattle.mg_journal.specs.declared.extent.Extent.{Extent}
use Rattle.mg_journal.specs.Text.{whole_lines, IsWhole}
use Rattle.mg_journal.specs.JournalFile.{FileState, Changes, HasAt, ReadsAt, cut_to}
use Rattle.mg_journal.specs.Opening.{IsSound, IsWithin}
use Rattle.mg_journal.specs.aids.Opened.{text_in}
use Rattle.mg_journal.specs.aids.Appending.{IsJournal}
use Rattle.mg_journal.specs.aids.Opening.{IsExtent, HasExtent, HasFront}
use Rattle.mg_journal.proofs.TextLemmas.{whole_front, whole_le, whole_twice}

-- ## Measuring

start_of : (known : Option (List ℕ)) (extent : Extent) → IsExtent extent []
    → IfSome known (λ bytes. (extent.all ≤ length bytes) × IsExtent extent (take extent.all bytes))
start_of None extent is = tt
start_of (Some bytes) extent is =
    (omega (arith, is.1), subst (λ (l : List ℕ). IsExtent extent l) (sym (ap (λ (n : ℕ). take n bytes) is.1)) is)

pub front_start : (file : FileState) (extent : Extent) → IsExtent extent [] → HasFront file extent
front_start file extent is = start_of file.bytes extent is

end_of : (known : Option (List ℕ)) (synced : Option (List ℕ)) (extent : Extent)
    → HasAt (record { bytes = known; synced = synced }) extent.all []
    → IfSome known (λ bytes. (extent.all ≤ length bytes) × IsExtent extent (take extent.all bytes))
    → IfSome known (λ bytes. IsExtent extent bytes)
end_of None synced extent at front = tt
end_of (Some bytes) synced extent at front =
    let none : drop extent.all bytes ≡ [] = at.1 refl in
    let all : take extent.all bytes ≡ bytes =
    take_all extent.all bytes (omega (arith, ap length none, length-drop extent.all bytes)) in
    subst (λ (l : List ℕ). IsExtent extent l) all front.1

-- If no bytes follow the measured prefix, the prefix is the whole file.
pub front_end : (file : FileState) (extent : Extent) (part : List ℕ) → part ≡ [] → HasAt file extent.all part
    → HasFront file extent → HasExtent file extent
front_end file extent part none at front =
    end_of file.bytes file.synced extent (subst (λ (l : List ℕ). HasAt file extent.all l) none at) front

more_of : (known : Option (List ℕ)) (synced : Option (List ℕ)) (extent longer : Extent) (part : List ℕ)
    → HasAt (record { bytes = known; synced = synced }) extent.all part
    → ((text : List ℕ) → IsExtent extent text → IsExtent longer (text ++ part))
    → IfSome known (λ bytes. (extent.all ≤ length bytes) × IsExtent extent (take extent.all bytes))
    → IfSome known (λ bytes. (longer.all ≤ length bytes) × IsExtent longer (take longer.all bytes))
more_of None synced extent longer part at grows front = tt
more_of (Some bytes) synced extent longer part at grows front =
    let rest = drop (length part) (drop extent.all bytes) in
    let text = take extent.all bytes ++ part in
    let is : IsExtent longer text = grows (take extent.all bytes) front.1 in
    let parts : bytes ≡ text ++ rest =
    sym (take-append-drop extent.all bytes) ∙ (ap (λ l. take extent.all bytes ++ l) (starts_with_rest (drop extent.all bytes) part at.0)
    ∙ sym (append_assoc (take extent.all bytes) part rest)) in
    let here : take longer.all bytes ≡ text =
    ap (λ (l : List ℕ). take longer.all l) parts ∙ take_at text rest longer.all (sym is.1) in (
      omega (arith, is.1, ap length parts, length-append text rest),
      subst (λ (l : List ℕ). IsExtent longer l) (sym here) is,
    )

-- If more bytes follow the measured prefix, the longer prefix is measured.
pub front_more : (file : FileState) (extent longer : Extent) (part : List ℕ) → HasAt file extent.all part
    → ((text : List ℕ) → IsExtent extent text → IsExtent longer (text ++ part)) → HasFront file extent → HasFront file longer
front_more file extent longer part at grows front = more_of file.bytes file.synced extent longer part at grows front

-- ## Reading

drop_then : (at n : ℕ) (xs : List ℕ) → at ≤ length xs → drop n (drop at xs) ≡ drop (at + n) xs
drop_then at n xs fits =
    sym (drop-append-add (take at xs) (drop at xs) n)
    ∙ (ap (λ (k : ℕ). drop (k + n) (take at xs ++ drop at xs)) (length-take-le at xs fits)
    ∙ ap (λ (l : List ℕ). drop (at + n) l) (take-append-drop at xs))

consumes_of : (known synced : Option (List ℕ)) (extent : Extent) (at n : ℕ) (part : List ℕ)
    → IfSome known (λ bytes. IsExtent extent bytes) → at + n ≤ extent.whole → length part ≡ n
    → HasAt (record { bytes = known; synced = synced }) at part
    → Consumes (option_map (λ bytes. drop at (whole_lines bytes)) known)
    (option_map (λ bytes. drop (at + n) (whole_lines bytes)) known) part
consumes_of None synced extent at n part is within size has = tt
consumes_of (Some bytes) synced extent at n part is within size has =
    let whole = whole_lines bytes in
    let rest = drop (length whole) bytes in
    let fits : at ≤ length whole = omega (arith, is.0, within) in
    let behind : drop at bytes ≡ drop at whole ++ rest =
    ap (λ (l : List ℕ). drop at l) (sym (whole_front bytes)) ∙ drop-append-le at whole rest fits in
    let within_whole : n ≤ length (drop at whole) = omega (arith, is.0, within, length-drop at whole) in
    let here : part ≡ take n (drop at whole) =
    sym has.0 ∙ (ap (λ (m : ℕ). take m (drop at bytes)) size ∙ (ap (λ (l : List ℕ). take n l) behind
    ∙ take-append-le n (drop at whole) rest within_whole)) in
    sym (take-append-drop n (drop at whole)) ∙ (ap (λ (l : List ℕ). l ++ drop n (drop at whole)) (sym here)
    ∙ ap (λ (l : List ℕ). part ++ l) (drop_then at n whole fits))

pub consumes : (file : FileState) (extent : Extent) (at n : ℕ) (part : List ℕ) → HasExtent file extent
    → at + n ≤ extent.whole → length part ≡ n → HasAt file at part
    → Consumes (option_map (λ bytes. drop at (whole_lines bytes)) file.bytes)
    (option_map (λ bytes. drop (at + n) (whole_lines bytes)) file.bytes) part
consumes file extent at n part is within size has =
    consumes_of file.bytes file.synced extent at n part is within size has

-- These lemmas show that `peek` copies a prefix of the complete lines.
pub nothing_taken : (known : Option (List ℕ)) → Consumes known known []
nothing_taken None = tt
nothing_taken (Some text) = refl

pub peeked : {E : Type 0} (result : Result ℕ E) (file new : FileState) (extent : Extent) (most : ℕ) (buffer rest : List ℕ)
    → HasExtent file extent → most ≤ extent.whole → 0 < most → length buffer ≡ most → ReadsAt 0 buffer file new result
    → IfOk result (λ n. (left : Option (List ℕ)) × Consumes (text_in file) left (take n (buffer ++ rest)))
peeked (Ok n) file new extent most buffer rest is within some size reads = (
  option_map (λ bytes. drop (0 + n) (whole_lines bytes)) file.bytes,
  subst (λ (l : List ℕ). Consumes (text_in file) (option_map (λ bytes. drop (0 + n) (whole_lines bytes)) file.bytes) l)
      (sym (take-append-le n buffer rest reads.0))
      (consumes file extent 0 n (take n buffer) is (omega (arith, reads.0, size, within))
      (length-take-le n buffer reads.0) (reads.1 (omega (arith, some, size)))),
)
peeked (Err error) file new extent most buffer rest is within some size reads = tt

-- These lemmas show that `peek_partial` copies a prefix of the bytes after the complete lines.
part_at : (known synced : Option (List ℕ)) (at : ℕ) (part : List ℕ) → IfSome known (λ bytes. at ≡ length (whole_lines bytes))
    → HasAt (record { bytes = known; synced = synced }) at part
    → IfSome known (λ bytes. StartsWith (drop (length (whole_lines bytes)) bytes) part)
part_at None synced at part is has = tt
part_at (Some bytes) synced at part is has = subst (λ (n : ℕ). StartsWith (drop n bytes) part) is has.0

whole_of : (known : Option (List ℕ)) (extent : Extent) → IfSome known (λ bytes. IsExtent extent bytes)
    → IfSome known (λ bytes. extent.whole ≡ length (whole_lines bytes))
whole_of None extent is = tt
whole_of (Some bytes) extent is = is.0

pub peeked_partial : {E : Type 0} (result : Result ℕ E) (file new : FileState) (extent : Extent) (most : ℕ)
    (buffer rest : List ℕ) → HasExtent file extent → 0 < most → length buffer ≡ most
    → ReadsAt extent.whole buffer file new result
    → IfOk result (λ n. IfSome file.bytes (λ bytes. StartsWith (drop (length (whole_lines bytes)) bytes) (take n (buffer ++ rest))))
peeked_partial (Ok n) file new extent most buffer rest is some size reads =
    subst (λ (l : List ℕ). IfSome file.bytes (λ bytes. StartsWith (drop (length (whole_lines bytes)) bytes) l))
    (sym (take-append-le n buffer rest reads.0))
    (part_at file.bytes file.synced extent.whole (take n buffer) (whole_of file.bytes extent is)
    (reads.1 (omega (arith, some, size))))
peeked_partial (Err error) file new extent most buffer rest is some size reads = tt

-- ## Truncating

cut_whole : (known : Option (List ℕ)) (len : ℕ) → IfSome known (λ bytes. len ≡ length (whole_lines bytes))
    → IfSome (option_map (λ bytes. take len bytes) known) (λ bytes. IsWhole bytes × (length bytes ≡ len))
    × (option_map whole_lines (option_map (λ bytes. take len bytes) known) ≡ option_map whole_lines known)
cut_whole None len is = (tt, refl)
cut_whole (Some bytes) len is =
    let whole = whole_lines bytes in
    let here : take len bytes ≡ whole =
    ap (λ (l : List ℕ). take len l) (sym (whole_front bytes)) ∙ take_at whole (drop (length whole) bytes) len (sym is) in (
      (
        subst (λ (l : List ℕ). IsWhole l) (sym here) (whole_twice bytes),
        ap length here ∙ sym is,
      ),
      ap (λ l. Some l) (ap whole_lines here ∙ whole_twice bytes),
    )

cut_within : (known : Option (List ℕ)) (len : ℕ) → IfSome (option_map (λ bytes. take len bytes) known) (λ bytes. length bytes ≤ len)
cut_within None len = tt
cut_within (Some bytes) len = omega (arith, length-take len bytes)

lengths : (known : Option (List ℕ)) (extent : Extent) → IfSome known (λ bytes. IsExtent extent bytes)
    → IfSome known (λ bytes. extent.whole ≡ length (whole_lines bytes))
lengths None extent is = tt
lengths (Some bytes) extent is = is.0

-- Removing a partial last line leaves a journal with the same text.
cut_partial : (file : FileState) (extent : Extent) → HasExtent file extent
    → IsJournal (cut_to extent.whole file) extent.whole false × (text_in (cut_to extent.whole file) ≡ text_in file)
cut_partial file extent is =
    let cut = cut_whole file.bytes extent.whole (lengths file.bytes extent is) in
    ((cut.0, cut_within file.synced extent.whole), cut.1)

all_whole : (known : Option (List ℕ)) (extent : Extent) → IfSome known (λ bytes. IsExtent extent bytes) → extent.whole ≡ extent.all
    → IfSome known (λ bytes. IsWhole bytes × (length bytes ≡ extent.whole))
all_whole None extent is all = tt
all_whole (Some bytes) extent is all =
    let rest = drop (length (whole_lines bytes)) bytes in
    let none : rest ≡ [] = drop_all (length (whole_lines bytes)) bytes (omega (arith, is.0, is.1, all)) in (
      sym (append-nil (whole_lines bytes)) ∙ (ap (λ l. whole_lines bytes ++ l) (sym none) ∙ whole_front bytes),
      omega (arith, is.1, all),
    )

all_within : (known synced : Option (List ℕ)) (extent : Extent) → IfSome known (λ bytes. IsExtent extent bytes)
    → IsWithin synced known → extent.whole ≡ extent.all → IfSome synced (λ front. length front ≤ extent.whole)
all_within known None extent is within all = tt
all_within None (Some front) extent is within all = absurd within
all_within (Some bytes) (Some front) extent is within all = omega (arith, is.1, all, within)

-- A file without a partial last line is a journal.
pub no_partial : (file : FileState) (extent : Extent) → extent.whole ≡ extent.all → HasExtent file extent → IsSound file
    → IsJournal file extent.whole false
no_partial file extent all is sound =
    (all_whole file.bytes extent is all, all_within file.bytes file.synced extent is sound all)

cut_as : {E : Type 0} (result : Result (Unit {0}) E) (file new : FileState) (extent : Extent) → Changes (cut_to extent.whole) file new result
    → HasExtent file extent → OnOk result (IsJournal new extent.whole false) × OnOk result (text_in new ≡ text_in file)
cut_as (Ok done) file new extent cut is =
    let journal = cut_partial file extent is in
    (subst (λ (f : FileState). IsJournal f extent.whole false) (sym cut) journal.0, ap (λ (f : FileState). text_in f) cut ∙ journal.1)
cut_as (Err error) file new extent cut is = (tt, tt)

pub journal_cut : {E : Type 0} (result : Result (Unit {0}) E) (file new : FileState) (extent : Extent)
    → Changes (cut_to extent.whole) file new result → HasExtent file extent → OnOk result (IsJournal new extent.whole false)
journal_cut result file new extent cut is = (cut_as result file new extent cut is).0

pub text_cut : {E : Type 0} (result : Result (Unit {0}) E) (file new : FileState) (extent : Extent)
    → Changes (cut_to extent.whole) file new result → HasExtent file extent → OnOk result (text_in new ≡ text_in file)
text_cut result file new extent cut is = (cut_as result file new extent cut is).1

-- The length of the partial last line is the difference between the two lengths of the extent.
pub partial_of : (known : Option (List ℕ)) (extent : Extent) (n : ℕ) → IfSome known (λ bytes. IsExtent extent bytes)
    → n ≡ extent.all - extent.whole → IfSome known (λ bytes. length (whole_lines bytes) + n ≡ length bytes)
partial_of None extent n is partial = tt
partial_of (Some bytes) extent n is partial = omega (arith, is.0, is.1, partial, whole_le bytes)
