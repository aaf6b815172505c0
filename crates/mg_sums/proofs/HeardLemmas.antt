-- The rows that are heard in a room: the joined rows, except the rows that are left out.
use Rattle.std.proofs.Common.{◌≡◌, ℕ, ◌+◌, ◌<◌, ◌≤◌, ◌⊎◌, inl, inr, Bool, true, false, not, ◌||◌, ◌==◌, cond, Option, Some, None, ℤ, pos, ◌+ℤ◌, ◌-ℤ◌, List, [], ◌∷◌, ◌++◌, map, length, length-append, get_or, zero, suc, refl, sym, ap, ap₂, subst, ◌∙◌, arith}
use Rattle.std.specs.Prelude.{All, IsTrue, filter, unsigned_abs}
use Rattle.std.specs.List.{range_with_len}
use Rattle.std.proofs.Math.ListN.{get_or-append}
use Rattle.std.proofs.lemmas.Int.{ints}
use Rattle.std.proofs.lemmas.Bool.{cases_lt, or_right}
use Rattle.std.proofs.lemmas.Bool.Decides.{nat_tests}
use Rattle.std.proofs.lemmas.List.{get_or_past}
use Rattle.std.proofs.lemmas.List.FromFn.{length-range_with_len, fill_by_all}
use Rattle.std.proofs.lemmas.List.Elements.{All-head, All-tail, All-weaker}
use Rattle.mg_sums.specs.Samples.{sample, sum_of, nearest_sample}
use Rattle.mg_sums.specs.Sums.{SumsState, AreOfRoom, AreAllOfRoom, is_room, is_joined, is_among, left_out_by, sample_in, joined_rows, heard_rows, heard_of, mix_of}
use Rattle.mg_sums.specs.aids.Sums.{total_of}
use Rattle.mg_sums.proofs.SumLemmas.{sum_of-filter, sum_of-plus, sum_of-near, sum_of-same, sum_of-among, sum_of-ones, sum_of-append}

-- A row that is joined to a room has a number below the number of rows.
joined_below : (rooms : List (Option ℕ)) (room row : ℕ) → is_joined rooms room row ≡ true → row < length rooms
joined_below rooms room row h = elim (cases_lt row (length rooms)) [
  | inl below ↦ below
  | inr past ↦
      let gone : is_joined rooms room row ≡ false =
      ap (λ (o : Option ℕ). is_room o room) (get_or_past rooms row None past) in
      cc
]

all_below : (rooms : List (Option ℕ)) (room : ℕ) (rows : List ℕ) → AreOfRoom rooms room rows →
    All (λ r. r < length rooms) rows
all_below rooms room rows h = All-weaker (λ (r : ℕ). IsTrue (is_joined rooms room r)) (λ (r : ℕ). r < length rooms)
    (λ r j. joined_below rooms room r j) rows h.joined

or_cases : (r k : ℕ) (rest : Bool) → ((k == r) || rest) ≡ true → (r ≡ k) ⊎ (rest ≡ true)
or_cases r k rest h = grind (arith, nat_tests)

among_joined : (rooms : List (Option ℕ)) (room : ℕ) (rows : List ℕ) (k : ℕ) →
    All (λ r. IsTrue (is_joined rooms room r)) rows → is_among rows k ≡ true → is_joined rooms room k ≡ true
among_joined rooms room [] k h m = cc
among_joined rooms room (r ∷ rs) k h m = elim (or_cases r k (is_among rs k) m) [
  | inl here ↦ subst (λ (n : ℕ). is_joined rooms room n ≡ true) here
      (All-head (λ (n : ℕ). IsTrue (is_joined rooms room n)) r rs h)
  | inr later ↦ among_joined rooms room rs k (All-tail (λ (n : ℕ). IsTrue (is_joined rooms room n)) r rs h) later
]

-- These lemmas split the total of a room into the sum of the rows that are left out and the sum of the rows that are
-- heard.
parts : (joined among : Bool) (v : ℤ) → (among ≡ true → joined ≡ true) →
    cond joined v (pos 0) ≡ cond among v (pos 0) +ℤ cond joined (cond (not among) v (pos 0)) (pos 0)
parts true true v h = omega (arith, ints)
parts true false v h = omega (arith, ints)
parts false true v h = let no = h refl in cc
parts false false v h = omega (arith, ints)

pub whole_is : (f : ℕ → ℤ) (rooms : List (Option ℕ)) (room : ℕ) (out : List ℕ) → AreOfRoom rooms room out →
    sum_of f (joined_rows rooms room) ≡ sum_of f out +ℤ sum_of f (heard_rows rooms room out)
unfolding joined_rows heard_rows
whole_is f rooms room out h =
    let rows : List ℕ = range_with_len 0 (length rooms) in
    let left = sum_of-among f (length rooms) out (all_below rooms room out h) h.different in
    let all = sum_of-filter (is_joined rooms room) f rows in
    let heard = sum_of-filter (λ row. not (is_among out row)) f (filter (is_joined rooms room) rows) ∙
    sum_of-filter (is_joined rooms room) (λ row. cond (not (is_among out row)) (f row) (pos 0)) rows in
    let both = sum_of-plus (λ row. cond (is_joined rooms room row) (f row) (pos 0))
    (λ row. cond (is_among out row) (f row) (pos 0))
    (λ row. cond (is_joined rooms room row) (cond (not (is_among out row)) (f row) (pos 0)) (pos 0)) rows
    (λ row. parts (is_joined rooms room row) (is_among out row) (f row) (among_joined rooms room out row h.joined)) in
    omega (arith, ints, left, all, heard, both)

-- These lemmas bound the lengths of lists of rows. A list of different rows of a room is no longer than the list of all
-- rows. The list `minus` is no longer than the list of rows that are left out.
cond_one : (b : Bool) → unsigned_abs (cond b (pos 1) (pos 0)) ≤ 1
cond_one true = omega arith
cond_one false = omega arith

pub few_rows : (rooms : List (Option ℕ)) (room : ℕ) (rows : List ℕ) → AreOfRoom rooms room rows →
    length rows ≤ length rooms
few_rows rooms room rows h =
    let one : ℕ → ℤ = λ _. pos 1 in
    let are = sum_of-among one (length rooms) rows (all_below rooms room rows h) h.different in
    let near = sum_of-near (λ k. cond (is_among rows k) (one k) (pos 0)) 1 (range_with_len 0 (length rooms))
    (λ k. cond_one (is_among rows k)) in
    let count = length-range_with_len 0 (length rooms) in
    let ones = sum_of-ones rows in
    omega (arith, ints, ap unsigned_abs (sym ones ∙ are), near, count)

pub few_minus : (base : Option ℕ) (minus : List ℕ) → length minus ≤ length (left_out_by base minus)
few_minus None minus = omega arith
few_minus (Some row) minus = omega arith

-- The mix is the total minus the rows that are left out, saturated.
pub mix_is : (kept : SumsState) (room : ℕ) (out : List ℕ) (mix rest : List ℤ) → AreOfRoom kept.rooms room out →
    length mix ≡ 160
    → ((i : ℕ) → i < 160 → sample mix i ≡ nearest_sample (sample rest i))
    → ((i : ℕ) → i < 160 → sample rest i ≡ total_of kept room i -ℤ sum_of (sample_in kept.frames i) out)
    → mix ≡ mix_of kept room out
unfolding mix_of
mix_is kept room out mix rest are long limits differs =
    fill_by_all (λ i. nearest_sample (heard_of kept room out i)) mix 160 (pos 0) long (λ i l.
    let heard : sample rest i ≡ heard_of kept room out i =
    omega (arith, ints, differs i l, whole_is (sample_in kept.frames i) kept.rooms room out are) in
    limits i l ∙ ap nearest_sample heard)

-- These lemmas show that the sum over all rows of a room, in any order, is the room's total.
among_at : (rows : List ℕ) (k j : ℕ) → j < length rows → get_or rows j k ≡ k → is_among rows k ≡ true
among_at [] k j l e = absurd (omega arith)
among_at (r ∷ rs) k zero l e = let here : (k == r) ≡ true = grind (arith, nat_tests) in
    ap (λ (b : Bool). b || is_among rs k) here
among_at (r ∷ rs) k (suc j) l e = let later = among_at rs k j (omega arith) e in
    or_right (k == r) (is_among rs k) later

bool_same : (a b : Bool) → (a ≡ true → b ≡ true) → (b ≡ true → a ≡ true) → a ≡ b
bool_same true b h g = sym (h refl)
bool_same false true h g = g refl
bool_same false false h g = refl

pub all_is : (f : ℕ → ℤ) (rooms : List (Option ℕ)) (room : ℕ) (rows : List ℕ) → AreAllOfRoom rooms room rows →
    sum_of f (joined_rows rooms room) ≡ sum_of f rows
unfolding joined_rows
all_is f rooms room rows h =
    let same : (k : ℕ) → is_joined rooms room k ≡ is_among rows k = λ k.
    bool_same (is_joined rooms room k) (is_among rows k)
    (λ joined. let (j, l, e) = h.all k joined in among_at rows k j l e)
    (among_joined rooms room rows k h.are.joined) in
    sum_of-filter (is_joined rooms room) f (range_with_len 0 (length rooms))
    ∙ (sum_of-same (λ k. cond (is_joined rooms room k) (f k) (pos 0)) (λ k. cond (is_among rows k) (f k) (pos 0))
    (range_with_len 0 (length rooms)) (λ k. ap (λ (b : Bool). cond b (f k) (pos 0)) (same k))
    ∙ sym (sum_of-among f (length rooms) rows (all_below rooms room rows h.are) h.are.different))

-- These lemmas are about a room with the rows `out` and `others`: the rows `others` are heard when `out` is left out.
first_of : (rooms : List (Option ℕ)) (room : ℕ) (out others : List ℕ) → AreOfRoom rooms room (out ++ others) →
    AreOfRoom rooms room out
first_of rooms room out others h =
    let long : length (out ++ others) ≡ length out + length others = length-append out others in
    record {
      joined = λ k d l. subst (λ (r : ℕ). IsTrue (is_joined rooms room r)) (get_or-append out others d k l)
          (h.joined k d (omega arith));
      different = λ i j d l m.
          let apart = h.different i j d l (omega arith) in
          rw (get_or-append out others d i (omega arith), get_or-append out others d j m) at apart;
    }

pub others_are : (f : ℕ → ℤ) (rooms : List (Option ℕ)) (room : ℕ) (out others : List ℕ) →
    AreAllOfRoom rooms room (out ++ others)
    → (sum_of f (heard_rows rooms room out) ≡ sum_of f others) ×
    (sum_of f (joined_rows rooms room) ≡ sum_of f out +ℤ sum_of f others)
others_are f rooms room out others h =
    let all = all_is f rooms room (out ++ others) h in
    let both = sum_of-append f out others in
    let whole = whole_is f rooms room out (first_of rooms room out others h.are) in
    (omega (arith, ints, all, both, whole), omega (arith, ints, all, both))

pub map_agree : {A B : Type 0} (f g : A → B) (xs : List A) → ((x : A) → f x ≡ g x) → map f xs ≡ map g xs
map_agree f g [] h = refl
map_agree f g (x ∷ xs) h = ap₂ ◌∷◌ (h x) (map_agree f g xs h)

pub mix_of-others : (kept : SumsState) (room : ℕ) (out others : List ℕ) → AreAllOfRoom kept.rooms room (out ++ others)
    → mix_of kept room out ≡ map (λ i. nearest_sample (sum_of (sample_in kept.frames i) others)) (range_with_len 0 160)
unfolding mix_of
mix_of-others kept room out others h =
    map_agree (λ i. nearest_sample (heard_of kept room out i))
    (λ i. nearest_sample (sum_of (sample_in kept.frames i) others)) (range_with_len 0 160)
    (λ i. ap nearest_sample (others_are (sample_in kept.frames i) kept.rooms room out others h).0)
