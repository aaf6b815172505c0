-- How the totals change when a row changes.
use Rattle.std.proofs.Common.{◌≡◌, ◌≢◌, ℕ, ◌<◌, ◌≤◌, inl, inr, Bool, true, false, ◌==◌, cond, Option, Some, None, ℤ, pos, ◌+ℤ◌, ◌-ℤ◌, List, [], length, get_or, set, slice_index_or, refl, sym, ap, subst, ◌∙◌, arith, FitsSigned, replicate, get_or-set_same, get_or-set_other}
use Rattle.std.specs.Int.{w16}
use Rattle.std.specs.Prelude.{All, IfSome, unsigned_abs}
use Rattle.std.specs.List.{range_with_len}
use Rattle.std.proofs.lemmas.Int.{ints}
use Rattle.std.proofs.lemmas.Bool.{cases_eq, cases_lt}
use Rattle.std.proofs.lemmas.Bool.Decides.{nat_tests}
use Rattle.std.proofs.lemmas.List.{get_or_past, length-replicate, get_or-replicate}
use Rattle.std.proofs.lemmas.List.FromFn.{length-range_with_len}
use Rattle.std.proofs.lemmas.List.Elements.{All-replicate, All-set}
use Rattle.std.proofs.Math.ListN.{length-set}
use Rattle.mg_words.specs.Limits.{context_limit, termination_limit}
use Rattle.mg_g711.specs.Frame.{IsFrame}
use Rattle.mg_g711.proofs.Frames.{sample_fits, silence_is_frame}
use Rattle.mg_sums.specs.Samples.{sample, sum_of, silence}
use Rattle.mg_sums.specs.Sums.{SumsState, is_room, is_joined}
use Rattle.mg_sums.specs.aids.Sums.{AreValidSums, first_sums, room_of}
use Rattle.mg_sums.specs.Sums.{sample_in, joined_rows}
use Rattle.mg_sums.specs.aids.Sums.{total_of}
use Rattle.mg_sums.specs.aids.Totals.{total_limit, AreTotals}
use Rattle.mg_sums.proofs.SumLemmas.{sum_of-filter, sum_of-near, sum_of-changed, sum_of-same, sum_of-none}

-- The number that a row adds to sample i of a room's total.
abbrev pub share : SumsState → ℕ → ℕ → ℕ → ℤ
share kept room i row = cond (is_joined kept.rooms room row) (sample_in kept.frames i row) (pos 0)

pub total_is : (kept : SumsState) (room i : ℕ) →
    total_of kept room i ≡ sum_of (share kept room i) (range_with_len 0 (length kept.rooms))
unfolding joined_rows
total_is kept room i = sum_of-filter (is_joined kept.rooms room) (sample_in kept.frames i)
    (range_with_len 0 (length kept.rooms))

-- The magnitude of a sample is at most 32768.
fits_near : (v : ℤ) → FitsSigned w16 v → unsigned_abs v ≤ 32768
fits_near v fits = omega (arith, ints)

pub sample_near : (frames : List (List ℤ)) (i row : ℕ) → All IsFrame frames →
    unsigned_abs (sample_in frames i row) ≤ 32768
sample_near frames i row whole =
    elim (cases_lt row (length frames)) [
      | inl below ↦ fits_near (sample_in frames i row)
          (sample_fits (slice_index_or frames row []) i (whole row [] below))
      | inr past ↦ subst (λ (xs : List ℤ). unsigned_abs (sample xs i) ≤ 32768) (sym (get_or_past frames row [] past))
          (omega arith)
    ]

cond_near : (b : Bool) (v : ℤ) (n : ℕ) → unsigned_abs v ≤ n → unsigned_abs (cond b v (pos 0)) ≤ n
cond_near true v n h = h
cond_near false v n h = omega arith

pub total_near : (kept : SumsState) (room i : ℕ) → AreValidSums kept → unsigned_abs (total_of kept room i) ≤ total_limit
total_near kept room i valid =
    let near = sum_of-near (share kept room i) 32768 (range_with_len 0 (length kept.rooms))
    (λ row. cond_near (is_joined kept.rooms room row) (sample_in kept.frames i row) 32768
    (sample_near kept.frames i row valid.whole)) in
    let count = length-range_with_len 0 (length kept.rooms) in
    omega (arith, near, count, valid.rooms, ap unsigned_abs (total_is kept room i))

-- If only one row changes its share, each total changes by the difference of that row's shares.
module _ (kept kept' : SumsState) (row : ℕ) (long : length kept'.rooms ≡ length kept.rooms)
    (below : row < length kept.rooms) (others : (r i k : ℕ) → k ≢ row → share kept' r i k ≡ share kept r i k) where
  changed_total : (r i : ℕ) → total_of kept' r i +ℤ share kept r i row ≡ total_of kept r i +ℤ share kept' r i row
  changed_total r i =
      let step = sum_of-changed (share kept' r i) (share kept r i) row (length kept.rooms) below (others r i) in
      let after : total_of kept' r i ≡ sum_of (share kept' r i) (range_with_len 0 (length kept.rooms)) =
      total_is kept' r i ∙ ap (λ (n : ℕ). sum_of (share kept' r i) (range_with_len 0 n)) long in
      omega (arith, ints, step, after, total_is kept r i)

  pub changed_totals : (totals : List (List ℤ)) (room : ℕ) (total : List ℤ) → AreValidSums kept' → room < context_limit
      → ((r i : ℕ) → r ≢ room → share kept' r i row ≡ share kept r i row)
      → ((i : ℕ) → i < 160 → sample total i +ℤ share kept room i row ≡
      sample (slice_index_or totals room []) i +ℤ share kept' room i row)
      → AreTotals kept totals → AreTotals kept' (set totals room total)
  changed_totals totals room total valid small elsewhere here h = record {
    valid = valid;
    rooms = length-set totals room total ∙ h.rooms;
    sums = λ r i m l. elim (cases_eq r room) [
      | inl same ↦
          let lt : room < length totals = omega (arith, h.rooms) in
          let now : slice_index_or (set totals room total) r [] ≡ total = rw (same, get_or-set_same) refl in
          let step = changed_total room i in
          let before = h.sums room i small l in
          let sum : sample total i ≡ total_of kept' room i = omega (arith, ints, step, before, here i l) in
          ap (λ (xs : List ℤ). sample xs i) now ∙ (sum ∙ ap (λ (q : ℕ). total_of kept' q i) (sym same))
      | inr other ↦
          let now : slice_index_or (set totals room total) r [] ≡ slice_index_or totals r [] =
          rw get_or-set_other refl in
          let step = changed_total r i in
          let before = h.sums r i m l in
          ap (λ (xs : List ℤ). sample xs i) now ∙ omega (arith, ints, step, before, elsewhere r i other)
    ];
  }

-- By these lemmas, a row adds its sample to the room that it is joined to, and 0 to the other rooms.
pub share-none : (kept : SumsState) (room i row : ℕ) → room_of kept row ≡ None → share kept room i row ≡ pos 0
share-none kept room i row e = ap (λ (o : Option ℕ). cond (is_room o room) (sample_in kept.frames i row) (pos 0)) e

pub share-here : (kept : SumsState) (room i row : ℕ) → room_of kept row ≡ Some room →
    share kept room i row ≡ sample_in kept.frames i row
share-here kept room i row e =
    ap (λ (o : Option ℕ). cond (is_room o room) (sample_in kept.frames i row) (pos 0)) e
    ∙ ap (λ (b : Bool). cond b (sample_in kept.frames i row) (pos 0))
    (let yes : (room == room) ≡ true = grind (arith, nat_tests) in yes)

pub share-elsewhere : (kept : SumsState) (room other i row : ℕ) → room_of kept row ≡ Some room → other ≢ room →
    share kept other i row ≡ pos 0
share-elsewhere kept room other i row e ne =
    ap (λ (o : Option ℕ). cond (is_room o other) (sample_in kept.frames i row) (pos 0)) e
    ∙ ap (λ (b : Bool). cond b (sample_in kept.frames i row) (pos 0))
    (let no : (room == other) ≡ false = grind (arith, nat_tests) in no)

-- If a row changes its room or its frame, the shares of the other rows are unchanged.
moved_others : (frames : List (List ℤ)) (rooms : List (Option ℕ)) (w w' row : ℕ) (home : Option ℕ) (r i k : ℕ) → k ≢ row
    → share (record { frames = frames; rooms = set rooms row home; work = w' }) r i k ≡
    share (record { frames = frames; rooms = rooms; work = w }) r i k
moved_others frames rooms w w' row home r i k ne =
    ap (λ (o : Option ℕ). cond (is_room o r) (sample_in frames i k) (pos 0))
    (let same : get_or (set rooms row home) k None ≡ get_or rooms k None = rw get_or-set_other refl in same)

reframed_others : (frames : List (List ℤ)) (rooms : List (Option ℕ)) (w w' row : ℕ) (frame : List ℤ) (r i k : ℕ) →
    k ≢ row
    → share (record { frames = set frames row frame; rooms = rooms; work = w' }) r i k ≡
    share (record { frames = frames; rooms = rooms; work = w }) r i k
reframed_others frames rooms w w' row frame r i k ne =
    ap (λ (xs : List ℤ). cond (is_room (get_or rooms k None) r) (sample xs i) (pos 0))
    (let same : get_or (set frames row frame) k [] ≡ get_or frames k [] = rw get_or-set_other refl in same)

valid_moved : (frames : List (List ℤ)) (rooms : List (Option ℕ)) (w w' row : ℕ) (home : Option ℕ) →
    IfSome home (λ number. number < context_limit)
    → AreValidSums (record { frames = frames; rooms = rooms; work = w }) →
    AreValidSums (record { frames = frames; rooms = set rooms row home; work = w' })
valid_moved frames rooms w w' row home small h = record {
  frames = h.frames;
  rooms = length-set rooms row home ∙ h.rooms;
  whole = h.whole;
  below = All-set (λ (o : Option ℕ). IfSome o (λ number. number < context_limit)) rooms row home small h.below;
}

valid_reframed : (frames : List (List ℤ)) (rooms : List (Option ℕ)) (w w' row : ℕ) (frame : List ℤ) → IsFrame frame
    → AreValidSums (record { frames = frames; rooms = rooms; work = w }) →
    AreValidSums (record { frames = set frames row frame; rooms = rooms; work = w' })
valid_reframed frames rooms w w' row frame whole h = record {
  frames = length-set frames row frame ∙ h.frames;
  rooms = h.rooms;
  whole = All-set IsFrame frames row frame whole h.whole;
  below = h.below;
}

module _ (frames : List (List ℤ)) (rooms : List (Option ℕ)) (w w' : ℕ) (totals : List (List ℤ))
    (h : AreTotals (record { frames = frames; rooms = rooms; work = w }) totals) where
  pub joined_totals : (row room : ℕ) (total : List ℤ) → row < termination_limit → room < context_limit →
      get_or rooms row None ≡ None
      → ((i : ℕ) → i < 160 → sample total i ≡ sample (slice_index_or totals room []) i +ℤ sample_in frames i row)
      → AreTotals (record { frames = frames; rooms = set rooms row (Some room); work = w' }) (set totals room total)
  joined_totals row room total p q free sum =
      let old : SumsState = record { frames = frames; rooms = rooms; work = w } in
      let new : SumsState = record { frames = frames; rooms = set rooms row (Some room); work = w' } in
      let lt : row < length rooms = omega (arith, h.valid.rooms) in
      let home : room_of new row ≡ Some room = rw get_or-set_same refl in
      changed_totals old new row (length-set rooms row (Some room)) lt
      (λ r i k ne. moved_others frames rooms w w' row (Some room) r i k ne)
      totals room total (valid_moved frames rooms w w' row (Some room) q h.valid) q
      (λ r i ne. share-elsewhere new room r i row home ne ∙ sym (share-none old r i row free))
      (λ i l. let a = share-here new room i row home in let b = share-none old room i row free in let e = sum i l in
      omega (arith, ints, a, b, e))
      h

  pub left_totals : (row room : ℕ) (total : List ℤ) → row < termination_limit → room < context_limit →
      get_or rooms row None ≡ Some room
      → ((i : ℕ) → i < 160 → sample total i ≡ sample (slice_index_or totals room []) i -ℤ sample_in frames i row)
      → AreTotals (record { frames = frames; rooms = set rooms row None; work = w' }) (set totals room total)
  left_totals row room total p q home sum =
      let old : SumsState = record { frames = frames; rooms = rooms; work = w } in
      let new : SumsState = record { frames = frames; rooms = set rooms row None; work = w' } in
      let lt : row < length rooms = omega (arith, h.valid.rooms) in
      let free : room_of new row ≡ None = rw get_or-set_same refl in
      changed_totals old new row (length-set rooms row None) lt
      (λ r i k ne. moved_others frames rooms w w' row None r i k ne)
      totals room total (valid_moved frames rooms w w' row None tt h.valid) q
      (λ r i ne. share-none new r i row free ∙ sym (share-elsewhere old room r i row home ne))
      (λ i l. let a = share-none new room i row free in let b = share-here old room i row home in let e = sum i l in
      omega (arith, ints, a, b, e))
      h

  pub reframed_totals : (row room : ℕ) (frame total : List ℤ) → row < termination_limit → room < context_limit →
      IsFrame frame → get_or rooms row None ≡ Some room
      → ((i : ℕ) → i < 160 → sample total i ≡ sample (slice_index_or totals room []) i -ℤ sample_in frames i row +ℤ
      sample frame i)
      → AreTotals (record { frames = set frames row frame; rooms = rooms; work = w' }) (set totals room total)
  reframed_totals row room frame total p q whole home sum =
      let old : SumsState = record { frames = frames; rooms = rooms; work = w } in
      let new : SumsState = record { frames = set frames row frame; rooms = rooms; work = w' } in
      let lt : row < length rooms = omega (arith, h.valid.rooms) in
      let within : row < length frames = omega (arith, h.valid.frames) in
      changed_totals old new row refl lt (λ r i k ne. reframed_others frames rooms w w' row frame r i k ne)
      totals room total (valid_reframed frames rooms w w' row frame whole h.valid) q
      (λ r i ne. share-elsewhere new room r i row home ne ∙ sym (share-elsewhere old room r i row home ne))
      (λ i l.
      let now : sample_in new.frames i row ≡ sample frame i =
      ap (λ (xs : List ℤ). sample xs i) (let e : get_or (set frames row frame) row [] ≡ frame =
      rw get_or-set_same refl in e) in
      let a = share-here new room i row home in
      let b = share-here old room i row home in
      let e = sum i l in
      omega (arith, ints, a, b, e, now))
      h

  pub framed_totals : (row : ℕ) (frame : List ℤ) → row < termination_limit → IsFrame frame →
      get_or rooms row None ≡ None
      → AreTotals (record { frames = set frames row frame; rooms = rooms; work = w' }) totals
  framed_totals row frame p whole free =
      let old : SumsState = record { frames = frames; rooms = rooms; work = w } in
      let new : SumsState = record { frames = set frames row frame; rooms = rooms; work = w' } in
      let same : (r i k : ℕ) → share new r i k ≡ share old r i k = λ r i k. elim (cases_eq k row) [
        | inl here ↦
            let nowhere : room_of old k ≡ None = ap (λ (n : ℕ). get_or rooms n None) here ∙ free in
            share-none new r i k nowhere ∙ sym (share-none old r i k nowhere)
        | inr other ↦ reframed_others frames rooms w w' row frame r i k other
      ] in
      record {
        valid = valid_reframed frames rooms w w' row frame whole h.valid;
        rooms = h.rooms;
        sums = λ r i m l. h.sums r i m l ∙ (total_is old r i ∙
            (sym (sum_of-same (share new r i) (share old r i) (range_with_len 0 (length rooms)) (same r i)) ∙
            sym (total_is new r i)));
      }

-- If no row is joined to a room, a lookup finds no room for any row.
joined_nowhere : (n row : ℕ) → get_or (replicate {A = Option ℕ} n None) row None ≡ None
joined_nowhere n row = elim (cases_lt row n) [
  | inl below ↦ get_or-replicate n row None None below
  | inr past ↦ let short : length (replicate {A = Option ℕ} n None) ≤ row =
      omega (arith, length-replicate {A = Option ℕ} n None) in
      get_or_past (replicate {A = Option ℕ} n None) row None short
]

pub first_totals : (frames : List (List ℤ)) (rooms : List (Option ℕ)) (totals : List (List ℤ)) →
    frames ≡ replicate termination_limit silence → rooms ≡ replicate termination_limit None →
    totals ≡ replicate context_limit silence
    → AreTotals (record { frames = frames; rooms = rooms; work = 0 }) totals
first_totals frames rooms totals f r t =
    let kept : SumsState = record { frames = frames; rooms = rooms; work = 0 } in
    let nowhere : (row : ℕ) → room_of kept row ≡ None = λ row. ap (λ (os : List (Option ℕ)). get_or os row None) r ∙
    joined_nowhere termination_limit row in
    record {
      valid = record {
        frames = ap length f ∙ length-replicate termination_limit silence;
        rooms = ap length r ∙ length-replicate {A = Option ℕ} termination_limit None;
        whole = subst (λ (xs : List (List ℤ)). All IsFrame xs) (sym f)
            (All-replicate IsFrame termination_limit silence silence_is_frame);
        below = subst (λ (os : List (Option ℕ)). All (λ (o : Option ℕ). IfSome o (λ number. number < context_limit))
            os) (sym r) (All-replicate (λ (o : Option ℕ). IfSome o (λ number. number < context_limit))
            termination_limit None tt);
      };
      rooms = ap length t ∙ length-replicate context_limit silence;
      sums = λ room i m l.
          ap (λ (xs : List (List ℤ)). sample (get_or xs room []) i) t
          ∙ (ap (λ (xs : List ℤ). sample xs i) (get_or-replicate context_limit room silence [] m)
          ∙ (get_or-replicate 160 i (pos 0) (pos 0) l
          ∙ (sym (sum_of-none (share kept room i) (range_with_len 0 (length rooms))
          (λ row. share-none kept room i row (nowhere row))) ∙ sym (total_is kept room i))));
    }

-- The sums in a stored total stay within the limit.
pub read_near : (kept : SumsState) (totals : List (List ℤ)) (room : ℕ) (total : List ℤ) → AreTotals kept totals →
    room < context_limit → total ≡ slice_index_or totals room []
    → (i : ℕ) → i < 160 → unsigned_abs (sample total i) ≤ total_limit
read_near kept totals room total h small read i l =
    let sum : sample total i ≡ total_of kept room i = ap (λ (xs : List ℤ). sample xs i) read ∙ h.sums room i small l in
    omega (arith, total_near kept room i h.valid, ap unsigned_abs sum)

pub silent : (i : ℕ) → sample silence i ≡ pos 0
silent i = elim (cases_lt i 160) [
  | inl below ↦ get_or-replicate 160 i (pos 0) (pos 0) below
  | inr past ↦ let short : length silence ≤ i = omega (arith, length-replicate 160 (pos 0)) in
      get_or_past silence i (pos 0) short
]

-- In the first state, no row is joined to a room.
pub first_rooms : (row : ℕ) → room_of first_sums row ≡ None
unfolding first_sums
first_rooms row = joined_nowhere termination_limit row

pub first_total : (room i : ℕ) → total_of first_sums room i ≡ pos 0
first_total room i = total_is first_sums room i ∙
    sum_of-none (share first_sums room i) (range_with_len 0 (length first_sums.rooms))
    (λ row. share-none first_sums room i row (first_rooms row))
