-- The contents of the lanes of a vector after each operation. A lane of a signed type is represented by its bits.
use Rattle.std.proofs.Common.{◌≡◌, ℕ, ℤ, pos, Bool, false, ◌+◌, ◌<◌, ◌≤◌, List, [], ◌∷◌, map, length, get_or, replicate, cond, ◌*◌, ◌/◌, refl, ap, arith, sym, ◌∙◌, suc, subst}
use mir.Syntax.{Width, w8}
use mir.Val.{of_z, to_z}
use lib.Lanes.{zip2, Each1, Each2, chunk, put_chunk, sel_l}
use Rattle.std.proofs.lemmas.Simd.{length-chunk, get_or-chunk, length-zip2, get_or-zip2, length-replicate, get_or-replicate, length-sel_l, get_or-sel_l, get_or-put_chunk_at, get_or-put_chunk_below, get_or-put_chunk_above, Each1-from_get_or, swz_l, SwzOk, length-swz_l, get_or-swz_l_below, SwzOk-from_below}
use Rattle.std.proofs.lemmas.List.{get_or-map, length-map}
use Rattle.mg_g711.specs.aids.Chunks.{WritesChunk}

-- The vector ys has n lanes, and lane j is f j.
pub record Holds (n : ℕ) (ys : List ℕ) (f : ℕ → ℕ) : Type 0 where
  pub count : length ys ≡ n
  pub lane : (j : ℕ) → j < n → get_or ys j 0 ≡ f j

-- The mask ms has n lanes, and lane j is t j.
pub record Tells (n : ℕ) (ms : List Bool) (t : ℕ → Bool) : Type 0 where
  pub count : length ms ≡ n
  pub lane : (j : ℕ) → j < n → get_or ms j false ≡ t j

-- These lemmas give the lanes of an array, of a chunk of a slice, and of a vector that repeats a number.
pub given_bytes : (n : ℕ) (xs : List ℕ) → length xs ≡ n → Holds n xs (λ j. get_or xs j 0)
given_bytes n xs h = record { count = h; lane = λ j l. refl }

pub given : (w : Width) (n : ℕ) (xs : List ℤ) → length xs ≡ n →
    Holds n (map (of_z w) xs) (λ j. of_z w (get_or xs j (pos 0)))
given w n xs h = record {
  count = length-map xs (of_z w) ∙ h;
  lane = λ j l. get_or-map (of_z w) xs j (pos 0) 0 (omega arith);
}

pub loaded : (w : Width) (n at : ℕ) (xs : List ℤ) → at + n ≤ length xs →
    Holds n (map (of_z w) (chunk at n xs)) (λ j. of_z w (get_or xs (at + j) (pos 0)))
loaded w n at xs h =
    let long : length (chunk at n xs) ≡ n = length-chunk at n xs h in
    let from : Holds n (map (of_z w) (chunk at n xs)) (λ j. of_z w (get_or (chunk at n xs) j (pos 0))) =
    given w n (chunk at n xs) long in
    record { count = from.count; lane = λ j l. from.lane j l ∙ ap (of_z w) (get_or-chunk at n xs j (pos 0) l) }

pub splat : (n y : ℕ) → Holds n (replicate n y) (λ _. y)
splat n y = record { count = length-replicate n y; lane = λ j l. get_or-replicate n j y 0 l }

-- These lemmas give the lanes of a vector after an operator, a comparison or a selection.
pub mapped : (g : ℕ → ℕ) {n : ℕ} {xs : List ℕ} {f : ℕ → ℕ} → Holds n xs f → Holds n (map g xs) (λ j. g (f j))
mapped g {n = n} {xs = xs} {f = f} h = record {
  count = length-map xs g ∙ h.count;
  lane = λ j l. get_or-map g xs j 0 0 (omega (arith, h.count)) ∙ ap g (h.lane j l);
}

pub zipped : (g : ℕ → ℕ → ℕ) {n : ℕ} {xs ys : List ℕ} {f k : ℕ → ℕ} → Holds n xs f → Holds n ys k →
    Holds n (zip2 g xs ys) (λ j. g (f j) (k j))
zipped g {n = n} {xs = xs} {ys = ys} {f = f} {k = k} h i = record {
  count = length-zip2 g xs ys (h.count ∙ sym i.count) ∙ h.count;
  lane = λ j l. get_or-zip2 g xs ys j 0 0 0 (omega (arith, h.count)) (omega (arith, i.count)) ∙
      (ap (λ (x : ℕ). g x (get_or ys j 0)) (h.lane j l) ∙ ap (λ (y : ℕ). g (f j) y) (i.lane j l));
}

pub asked : (t : ℕ → Bool) {n : ℕ} {xs : List ℕ} {f : ℕ → ℕ} → Holds n xs f → Tells n (map t xs) (λ j. t (f j))
asked t {n = n} {xs = xs} {f = f} h = record {
  count = length-map xs t ∙ h.count;
  lane = λ j l. get_or-map t xs j 0 false (omega (arith, h.count)) ∙ ap t (h.lane j l);
}

pub chosen : {n : ℕ} {ms : List Bool} {xs ys : List ℕ} {t : ℕ → Bool} {f k : ℕ → ℕ} → Tells n ms t → Holds n xs f →
    Holds n ys k → Holds n (sel_l ms xs ys) (λ j. cond (t j) (f j) (k j))
chosen {n = n} {ms = ms} {xs = xs} {ys = ys} {t = t} {f = f} {k = k} m h i = record {
  count = length-sel_l ms xs ys (m.count ∙ sym h.count) (m.count ∙ sym i.count) ∙ m.count;
  lane = λ j l. get_or-sel_l ms xs ys j 0 (omega (arith, m.count)) (omega (arith, h.count)) (omega (arith, i.count)) ∙
      (ap (λ (b : Bool). cond b (get_or xs j 0) (get_or ys j 0)) (m.lane j l) ∙
      (ap (λ (x : ℕ). cond (t j) x (get_or ys j 0)) (h.lane j l) ∙ ap (λ (y : ℕ). cond (t j) (f j) y) (i.lane j l)));
}

-- If a property holds for the contents of each lane, it holds for each element of the vector.
pub each : (P : ℕ → Type 0) {n : ℕ} {ys : List ℕ} {f : ℕ → ℕ} → Holds n ys f → ((j : ℕ) → j < n → P (f j)) → Each1 P ys
each P {ys = ys} h p = Each1-from_get_or P ys 0
    (λ i l. subst P (sym (h.lane i (omega (arith, h.count)))) (p i (omega (arith, h.count))))

each2_from : (P : ℕ → ℕ → Type 0) (xs ys : List ℕ) → length xs ≡ length ys →
    ((j : ℕ) → j < length xs → P (get_or xs j 0) (get_or ys j 0)) → Each2 P xs ys
each2_from P [] ys same p = tt
each2_from P (x ∷ xs) [] same p = absurd (omega (arith, same))
each2_from P (x ∷ xs) (y ∷ ys) same p = (
  p 0 (omega arith),
  each2_from P xs ys (omega (arith, same)) (λ j l. p (suc j) (omega arith)),
)

pub each_both : (P : ℕ → ℕ → Type 0) {n : ℕ} {xs ys : List ℕ} {f k : ℕ → ℕ} → Holds n xs f → Holds n ys k →
    ((j : ℕ) → j < n → P (f j) (k j)) → Each2 P xs ys
each_both P {n = n} {xs = xs} {ys = ys} {f = f} {k = k} h i p =
    each2_from P xs ys (h.count ∙ sym i.count) (λ j l.
    let lt : j < n = omega (arith, h.count) in
    subst (λ (y : ℕ). P (get_or xs j 0) y) (sym (i.lane j lt))
    (subst (λ (x : ℕ). P x (k j)) (sym (h.lane j lt)) (p j lt)))

-- This lemma gives the lanes of a vector after a lookup in a table of 16 entries.
pub looked_up : (table : List ℕ) {xs : List ℕ} {f : ℕ → ℕ} → Holds 16 xs f → ((j : ℕ) → j < 16 → f j < 16) →
    Holds 16 (swz_l w8 16 table 0 xs) (λ j. get_or table (f j) 0)
looked_up table {xs = xs} {f = f} h below = record {
  count = length-swz_l w8 16 table 0 xs ∙ h.count;
  lane = λ j l.
      let at : get_or xs j 0 ≡ f j = h.lane j l in
      let small : get_or xs j 0 < 16 = omega (arith, at, below j l) in
      let block : 16 * ((0 + j) / 16) + get_or xs j 0 ≡ f j = omega arith in
      get_or-swz_l_below w8 16 table 0 xs j (omega (arith, h.count)) small ∙ ap (λ (k : ℕ). get_or table k 0) block;
}

pub lookups_fit : {xs : List ℕ} {f : ℕ → ℕ} → Holds 16 xs f → ((j : ℕ) → j < 16 → f j < 16) → SwzOk w8 16 16 0 xs
lookups_fit {xs = xs} h below = SwzOk-from_below w8 16 1 16 0 xs refl (omega (arith, h.count))
    (each (λ (k : ℕ). k < 16) h below)

-- This lemma gives the elements of a slice after a vector is written into the slice.
pub stored : (w : Width) {n : ℕ} {ys : List ℕ} {f : ℕ → ℕ} → Holds n ys f → (at : ℕ) (xs : List ℤ) →
    at + n ≤ length xs → WritesChunk n xs (put_chunk at xs (map (to_z w) ys)) at (λ j. to_z w (f j))
stored w {n = n} {ys = ys} {f = f} h at xs room =
    let long : length (map (to_z w) ys) ≡ n = length-map ys (to_z w) ∙ h.count in
    record {
      inside = λ j l. get_or-put_chunk_at at xs (map (to_z w) ys) j (pos 0) (omega arith) (omega arith) ∙
          (get_or-map (to_z w) ys j 0 (pos 0) (omega (arith, h.count)) ∙ ap (to_z w) (h.lane j l));
      below = λ k l. get_or-put_chunk_below at xs (map (to_z w) ys) k (pos 0) l;
      above = λ k l. get_or-put_chunk_above at xs (map (to_z w) ys) k (pos 0) (omega arith);
    }
