-- Finding and hashing the last part of a file.
use Rattle.std.proofs.Common.{◌≡◌, ℕ, zero, suc, ◌+◌, ◌-◌, ◌<◌, ◌≤◌, Bool, true, false, List, [], ◌∷◌, ◌++◌, length, take, drop, Option, Some, None, IfSome, refl, ap, sym, ◌∙◌, subst, arith, append-nil, length-append, codes}
use Rattle.std.proofs.lemmas.List.{drop-append-le, drop-drop, drop-take, drop_all, length-drop, drop_at, length-take, length-take-le, take-append-drop, take-append-le, take-take, take_at}
use Rattle.std.proofs.lemmas.Slice.Eq.{bytes_eq-Decides}
use Rattle.std.proofs.Math.Seq.{take-add}
use Rattle.std.specs.Prelude.{◌||◌, nat_eq}
use lib.Pointwise.{pointwise}
use Rattle.sha2.specs.declared.Sha256.{Sha256}
use Rattle.sha2.specs.Hashers.{Holds256}
use Rattle.mg_chain.specs.Seals.{has_mark, last_part}
use Rattle.mg_chain.specs.aids.Parts.{IsStart}
use Rattle.mg_chain.proofs.PartLemmas.{mark_cons, marks, none_drop, part_of_start, part_same}
use Rattle.mg_journal.specs.JournalFile.{FileState, HasAt}
use Rattle.mg_journal.specs.aids.LastPart.{HasBytes, HoldsFrom, IsSearched, StartsAt}

-- ## Marks in a chunk

or_both : (a b : Bool) → (a || b) ≡ false → (a ≡ false) × (b ≡ false)
or_both true b none = absurd cc
or_both false b none = (refl, none)

marks_same : (text rest : List ℕ) → 10 ≤ length text → marks (text ++ rest) ≡ marks text
marks_same text rest fits =
    ap (λ (l : List ℕ). pointwise nat_eq (codes "\n# sha256 ") l) (take-append-le 10 text rest fits)

wide_none : (chunk rest : List ℕ) (from : ℕ) → has_mark chunk ≡ false → has_mark (drop from (chunk ++ rest)) ≡ false
    → from + 9 ≤ length chunk → has_mark (chunk ++ rest) ≡ false
unfolding has_mark
wide_none [] rest from none later wide = absurd (omega (arith, wide))
wide_none (b ∷ bs) rest zero none later wide = later
wide_none (b ∷ bs) rest (suc from) none later wide =
    let both = or_both (marks (b ∷ bs)) (has_mark bs) none in
    ap (λ is. is || has_mark (bs ++ rest)) (marks_same (b ∷ bs) rest (omega (arith, wide)) ∙ both.0)
    ∙ wide_none bs rest from both.1 later (omega (arith, wide))

-- Let the text from `from` on overlap a chunk by at least 9 bytes, unless nothing follows the chunk. If neither of the
-- two has a mark, the chunk together with the text after it has no mark.
chunk_none : (chunk rest : List ℕ) (from : ℕ) → has_mark chunk ≡ false → has_mark (drop from (chunk ++ rest)) ≡ false
    → (0 < length rest → from + 9 ≤ length chunk) → has_mark (chunk ++ rest) ≡ false
chunk_none chunk [] from none later wide = ap has_mark (append-nil chunk) ∙ none
chunk_none chunk (c ∷ cs) from none later wide = wide_none chunk (c ∷ cs) from none later (wide (omega arith))

no_mark : has_mark [] ≡ false
unfolding has_mark
no_mark = refl

mark_fits : (text : List ℕ) → marks text ≡ true → 10 ≤ length text
mark_fits text is =
    omega (arith, ap length ((bytes_eq-Decides (codes "\n# sha256 ") (take 10 text)).0 is), length-take 10 text)

mark_front : (text rest : List ℕ) → has_mark text ≡ true → has_mark (text ++ rest) ≡ true
unfolding has_mark
mark_front [] rest some = absurd cc
mark_front (b ∷ bs) rest some = at (marks (b ∷ bs)) refl some (λ more. mark_front bs rest more)
  where
    at : (is : Bool) → marks (b ∷ bs) ≡ is → (is || has_mark bs) ≡ true
        → (has_mark bs ≡ true → has_mark (bs ++ rest) ≡ true) → has_mark ((b ∷ bs) ++ rest) ≡ true
    at true is some more =
        ap (λ first. first || has_mark (bs ++ rest)) (marks_same (b ∷ bs) rest (mark_fits (b ∷ bs) is) ∙ is)
    at false is some more = mark_cons b (bs ++ rest) (more some)

-- Let the text from `from` on overlap the chunk in the same way. If the chunk has no mark after `start`, and the text
-- from `from` on has no mark, then there is no mark after `start`.
last_none : (chunk rest : List ℕ) (from start : ℕ) → start ≤ length chunk → has_mark (drop start chunk) ≡ false
    → has_mark (drop from (chunk ++ rest)) ≡ false → (0 < length rest → from + 9 ≤ length chunk)
    → has_mark (drop start (chunk ++ rest)) ≡ false
last_none chunk rest zero start within none later wide = none_drop start (chunk ++ rest) later
last_none chunk rest (suc from) zero within none later wide = chunk_none chunk rest (suc from) none later wide
last_none [] rest (suc from) (suc start) within none later wide = absurd (omega (arith, within))
last_none (b ∷ bs) rest (suc from) (suc start) within none later wide =
    last_none bs rest from start (omega (arith, within)) none later (λ more. omega (arith, wide more))

start_of : (chunk rest : List ℕ) (from start : ℕ) → IsStart chunk start → has_mark (drop from (chunk ++ rest)) ≡ false
    → (0 < length rest → from + 9 ≤ length chunk) → IsStart (chunk ++ rest) start
start_of chunk rest from start is later wide = record {
  within = omega (arith, is.within, length-append chunk rest);
  before = subst (λ (l : List ℕ). has_mark l ≡ true)
      (sym (drop-append-le (start - 1) chunk rest (omega (arith, is.within))))
      (mark_front (drop (start - 1) chunk) rest is.before);
  last = last_none chunk rest from start is.within is.last later wide;
}

-- If the last part of the text from `at` on begins at `start`, the last part of the whole text begins at `at + start`.
start_behind : (text : List ℕ) (at start : ℕ) → IsStart (drop at text) start → IsStart text (at + start)
start_behind text at zero is = absurd (cc (is.before, is.last))
start_behind text at (suc start) is = record {
  within = omega (arith, is.within, length-drop at text, some (drop at text) start is.within);
  before = subst (λ (l : List ℕ). has_mark l ≡ true)
      (drop-drop (suc start - 1) at text ∙ ap (λ (n : ℕ). drop n text) (back start)) is.before;
  last = subst (λ (l : List ℕ). has_mark l ≡ false) (drop-drop (suc start) at text) is.last;
}
  where
    some : (rest : List ℕ) (n : ℕ) → suc n ≤ length rest → 0 < length rest
    some rest n within = omega (arith, within)

    back : (n : ℕ) → at + (suc n - 1) ≡ at + suc n - 1
    back n = omega arith

-- ## Chunks of a file

abbrev Chunk : (bytes : List ℕ) (whole at : ℕ) (part : List ℕ) → Type 0
Chunk bytes whole at part =
    (rest : List ℕ) × (drop at (take whole bytes) ≡ part ++ rest) × (0 < length rest → at + length part < whole)

chunk_of : (bytes : List ℕ) (whole at : ℕ) (part : List ℕ) → part ≡ take (length part) (drop at bytes)
    → at + length part ≤ whole → Chunk bytes whole at part
chunk_of bytes whole at part is fits =
    let text = take whole bytes in
    let k = length part in
    let size : whole ≡ at + (whole - at) = omega (arith, fits) in
    let middle : drop at text ≡ take (whole - at) (drop at bytes) =
    ap (λ (n : ℕ). drop at (take n bytes)) size ∙ drop-take at (whole - at) bytes in
    let here : take k (drop at text) ≡ part =
    ap (λ (l : List ℕ). take k l) middle ∙ (take-take k (whole - at) (drop at bytes) (omega (arith, fits)) ∙ sym is) in (
      drop k (drop at text),
      sym (take-append-drop k (drop at text)) ∙ ap (λ (l : List ℕ). l ++ drop k (drop at text)) here,
      λ more. omega (arith, more, length-drop k (drop at text), length-drop at text, length-take whole bytes),
    )

-- If the text has no mark from `from` on, its rest from `at` on has no mark there either.
later_of : (bytes : List ℕ) (whole at from : ℕ) (all : List ℕ) → at ≤ from → drop at (take whole bytes) ≡ all
    → has_mark (drop from (take whole bytes)) ≡ false → has_mark (drop (from - at) all) ≡ false
later_of bytes whole at from all order parts none =
    let there : at + (from - at) ≡ from = omega (arith, order) in
    subst (λ (l : List ℕ). has_mark l ≡ false)
    (sym (ap (λ (n : ℕ). drop n (take whole bytes)) there) ∙ (sym (drop-drop (from - at) at (take whole bytes))
    ∙ ap (λ (l : List ℕ). drop (from - at) l) parts)) none

none_of : (known : Option (List ℕ)) (whole at from : ℕ) (part : List ℕ)
    → IfSome known (λ bytes. part ≡ take (length part) (drop at bytes)) → at ≤ from → at + length part ≤ whole
    → (at + length part < whole → from + 9 ≤ at + length part) → has_mark part ≡ false
    → IfSome known (λ bytes. has_mark (drop from (take whole bytes)) ≡ false)
    → IfSome known (λ bytes. has_mark (drop at (take whole bytes)) ≡ false)
none_of None whole at from part is order fits wide none later = tt
none_of (Some bytes) whole at from part is order fits wide none later =
    let c = chunk_of bytes whole at part is fits in
    ap has_mark c.1 ∙ chunk_none part c.0 (from - at) none (later_of bytes whole at from (part ++ c.0) order c.1 later)
    (λ more. omega (arith, wide (c.2 more), order))

-- If a chunk has no mark, and the file was searched after the chunk, the file is searched from the beginning of the
-- chunk on.
pub none_found : (file : FileState) (whole at from : ℕ) (part : List ℕ) → HasBytes file at part → at ≤ from
    → at + length part ≤ whole → (at + length part < whole → from + 9 ≤ at + length part) → has_mark part ≡ false
    → IsSearched file whole from → IsSearched file whole at
none_found file whole at from part is order fits wide none later =
    none_of file.bytes whole at from part is order fits wide none later

some_of : (known : Option (List ℕ)) (whole at from start : ℕ) (part : List ℕ)
    → IfSome known (λ bytes. part ≡ take (length part) (drop at bytes)) → at ≤ from → at + length part ≤ whole
    → (at + length part < whole → from + 9 ≤ at + length part) → IsStart part start
    → IfSome known (λ bytes. has_mark (drop from (take whole bytes)) ≡ false)
    → IfSome known (λ bytes. last_part (take whole bytes) ≡ drop (at + start) (take whole bytes))
some_of None whole at from start part is order fits wide starts later = tt
some_of (Some bytes) whole at from start part is order fits wide starts later =
    let c = chunk_of bytes whole at part is fits in
    let here : IsStart (part ++ c.0) start =
    start_of part c.0 (from - at) start starts (later_of bytes whole at from (part ++ c.0) order c.1 later)
    (λ more. omega (arith, wide (c.2 more), order)) in
    part_of_start (take whole bytes) (at + start)
    (start_behind (take whole bytes) at start (subst (λ (l : List ℕ). IsStart l start) (sym c.1) here))

-- If the last part of a chunk begins at `start`, and no mark follows the chunk, the last part of the file begins there
-- too.
pub some_found : (file : FileState) (whole at from start : ℕ) (part : List ℕ) → HasBytes file at part → at ≤ from
    → at + length part ≤ whole → (at + length part < whole → from + 9 ≤ at + length part) → IsStart part start
    → IsSearched file whole from → StartsAt file whole (at + start)
some_found file whole at from start part is order fits wide starts later = (
  omega (arith, fits, starts.within),
  some_of file.bytes whole at from start part is order fits wide starts later,
)

all_of : (known : Option (List ℕ)) (whole at : ℕ) → at ≡ 0
    → IfSome known (λ bytes. has_mark (drop at (take whole bytes)) ≡ false)
    → IfSome known (λ bytes. last_part (take whole bytes) ≡ drop 0 (take whole bytes))
all_of None whole at front none = tt
all_of (Some bytes) whole at front none =
    part_same (take whole bytes) (subst (λ (n : ℕ). has_mark (drop n (take whole bytes)) ≡ false) front none)

-- If the whole file was searched without finding a mark, its last part begins at 0.
pub all_searched : (file : FileState) (whole at : ℕ) → at ≡ 0 → IsSearched file whole at → StartsAt file whole 0
all_searched file whole at front none = (omega arith, all_of file.bytes whole at front none)

end_of : (known : Option (List ℕ)) (whole : ℕ) → IfSome known (λ bytes. has_mark (drop whole (take whole bytes)) ≡ false)
end_of None whole = tt
end_of (Some bytes) whole =
    ap has_mark (drop_all whole (take whole bytes) (omega (arith, length-take whole bytes))) ∙ no_mark

-- At the end of the file, nothing is left to search.
pub searched_end : (file : FileState) (whole : ℕ) → IsSearched file whole whole
searched_end file whole = end_of file.bytes whole

-- ## Filling a buffer

more_of : (known synced : Option (List ℕ)) (at n : ℕ) (front part : List ℕ) → length front ≡ n
    → IfSome known (λ bytes. front ≡ take (length front) (drop at bytes))
    → HasAt (record { bytes = known; synced = synced }) (at + n) part
    → IfSome known (λ bytes. front ++ part ≡ take (length (front ++ part)) (drop at bytes))
more_of None synced at n front part size is has = tt
more_of (Some bytes) synced at n front part size is has =
    let there : drop (length front) (drop at bytes) ≡ drop (at + n) bytes =
    drop-drop (length front) at bytes ∙ ap (λ (k : ℕ). drop (at + k) bytes) size in
    let more : part ≡ take (length part) (drop (length front) (drop at bytes)) =
    sym has.0 ∙ ap (λ (l : List ℕ). take (length part) l) (sym there) in
    ap (λ (l : List ℕ). l ++ part) is
    ∙ (ap (λ (l : List ℕ). take (length front) (drop at bytes) ++ l) more
    ∙ (sym (take-add (length front) (length part) (drop at bytes))
    ∙ ap (λ (k : ℕ). take k (drop at bytes)) (sym (length-append front part))))

-- After one more read, the filled part of the buffer has the bytes of the file.
pub filled_more : (file : FileState) (at n more : ℕ) (old part rest : List ℕ) → n ≤ length old → more ≤ length part
    → HasAt file (at + n) (take more part) → HasBytes file at (take n old)
    → HasBytes file at (take (n + more) (take n old ++ (part ++ rest)))
filled_more file at n more old part rest within fits has is =
    let front = take n old in
    let size = length-take-le n old within in
    let parts : take (n + more) (front ++ (part ++ rest)) ≡ front ++ take more part =
    take-add n more (front ++ (part ++ rest))
    ∙ (ap (λ (l : List ℕ). l ++ take more (drop n (front ++ (part ++ rest)))) (take_at front (part ++ rest) n size)
    ∙ (ap (λ (l : List ℕ). front ++ take more l) (drop_at front (part ++ rest) n size)
    ∙ ap (λ (l : List ℕ). front ++ l) (take-append-le more part rest fits))) in
    subst (λ (l : List ℕ). HasBytes file at l) (sym parts) (more_of file.bytes file.synced at n front (take more part) size is has)

-- ## Hashing

hashed_of : (known : Option (List ℕ)) (start at : ℕ) (part : List ℕ) (old new : Sha256) → 0 < length part → start ≤ at
    → IfSome known (λ bytes. part ≡ take (length part) (drop at bytes))
    → ((p : List ℕ) → Holds256 old p → Holds256 new (p ++ part))
    → IfSome known (λ bytes. Holds256 old (drop start (take at bytes)))
    → IfSome known (λ bytes. Holds256 new (drop start (take (at + length part) bytes)))
hashed_of None start at part old new some order is adds holds = tt
hashed_of (Some bytes) start at part old new some order is adds holds =
    let fits : start ≤ length (take at bytes) =
    omega (arith, some, order, ap length is, length-take (length part) (drop at bytes), length-drop at bytes, length-take at bytes) in
    let here : drop start (take (at + length part) bytes) ≡ drop start (take at bytes) ++ part =
    ap (λ (l : List ℕ). drop start l) (take-add at (length part) bytes ∙ ap (λ (l : List ℕ). take at bytes ++ l) (sym is))
    ∙ drop-append-le start (take at bytes) part fits in
    subst (λ (l : List ℕ). Holds256 new l) (sym here) (adds (drop start (take at bytes)) holds)

-- Hashing one more chunk extends the hashed part of the file.
pub hashed_more : (file : FileState) (start at size : ℕ) (part : List ℕ) (old new : Sha256) → length part ≡ size → 0 < size
    → start ≤ at → HasBytes file at part → ((p : List ℕ) → Holds256 old p → Holds256 new (p ++ part))
    → HoldsFrom file start at old → HoldsFrom file start (at + size) new
hashed_more file start at size part old new same some order is adds holds =
    subst (λ (n : ℕ). HoldsFrom file start (at + n) new) same
    (hashed_of file.bytes start at part old new (omega (arith, same, some)) order is adds holds)
