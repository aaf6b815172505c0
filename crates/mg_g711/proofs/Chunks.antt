-- Lemmas about writing a list in chunks, or one element at a time.
use Rattle.std.proofs.Common.{◌≡◌, ◌≢◌, ℕ, ℤ, pos, ◌+◌, ◌-◌, ◌*◌, ◌/◌, ◌<◌, ◌≤◌, inl, inr, suc, zero, List, [], length, map, get_or, drop, set, slice_index_or, ap, arith, sym, ◌∙◌, subst, get_or-set_same, get_or-set_other}
use Rattle.std.specs.Simd.{first_chunks}
use Rattle.std.proofs.lemmas.Bool.{cases_lt, cases_eq}
use Rattle.std.proofs.lemmas.List.{get_or-take, get_or-drop, get_or_default, get_or-map, length-map, same_lists}
use Rattle.mg_g711.specs.aids.Chunks.{WritesChunk}

-- The first n elements are the values of f, and the others are unchanged.
pub record DoneTo (n : ℕ) (f : ℕ → ℤ) (first now : List ℤ) : Type 0 where
  pub done : (k : ℕ) → k < n → slice_index_or now k (pos 0) ≡ f k
  pub rest : (k : ℕ) → n ≤ k → slice_index_or now k (pos 0) ≡ slice_index_or first k (pos 0)

pub chunk_more : (n at m : ℕ) (f g : ℕ → ℤ) (first old new : List ℤ) → DoneTo at f first old →
    WritesChunk n old new at g → m ≡ at + n → ((j : ℕ) → j < n → g j ≡ f (at + j)) → DoneTo m f first new
chunk_more n at m f g first old new so_far written next same = record {
  done = λ k l. elim (cases_lt k at) [
    | inl before ↦ written.below k before ∙ so_far.done k before
    | inr from ↦
        let j : ℕ = k - at in
        let place : at + j ≡ k = omega arith in
        subst (λ (p : ℕ). slice_index_or new p (pos 0) ≡ f p) place
        (written.inside j (omega arith) ∙ same j (omega arith))
  ];
  rest = λ k l. written.above k (omega arith) ∙ so_far.rest k (omega arith);
}

pub one_more : (n : ℕ) (f : ℕ → ℤ) (first old : List ℤ) (v : ℤ) → DoneTo n f first old → n < length old → v ≡ f n →
    DoneTo (n + 1) f first (set old n v)
one_more n f first old v so_far within is = record {
  done = λ k l. elim (cases_eq k n) [
    | inl here ↦ subst (λ (p : ℕ). slice_index_or (set old n v) p (pos 0) ≡ f p) (sym here) (rw get_or-set_same is)
    | inr other ↦ rw get_or-set_other (so_far.done k (omega arith))
  ];
  rest = λ k l. let other : k ≢ n = omega arith in rw get_or-set_other (so_far.rest k (omega arith));
}

-- An element of a chunk is the element of the list at the chunk's offset plus the index.
chunk_at : {X : Type 0} (n k : ℕ) (xs : List X) (d : X) (i j : ℕ) → i < k → j < n →
    get_or (get_or (first_chunks n k xs) i []) j d ≡ get_or xs (n * i + j) d
chunk_at n zero xs d i j l m = absurd (omega arith)
chunk_at n (suc k) xs d zero j l m = let place : j ≡ n * 0 + j = omega arith in get_or-take n xs j d m ∙
    ap (λ (p : ℕ). get_or xs p d) place
chunk_at n (suc k) xs d (suc i) j l m =
    let place : n + (n * i + j) ≡ n * suc i + j = omega arith in
    chunk_at n k (drop n xs) d i j (omega arith) m ∙
    (get_or-drop n xs (n * i + j) d ∙ ap (λ (p : ℕ). get_or xs p d) place)

pub chunk_is : {X : Type 0} (n : ℕ) (chunks : List (List X)) (xs : List X) (d : X) (i j : ℕ) →
    chunks ≡ first_chunks n (length xs / n) xs → i < length xs / n → j < n →
    get_or (get_or chunks i []) j d ≡ get_or xs (n * i + j) d
chunk_is {X} n chunks xs d i j are l m = ap (λ (cs : List (List X)). get_or (get_or cs i []) j d) are ∙
    chunk_at n (length xs / n) xs d i j l m

-- If a list is as long as the bytes, and each element is f of the byte at its index, the list is the bytes mapped by f.
pub mapped_is : (f : ℕ → ℤ) (bytes : List ℕ) (now : List ℤ) → length now ≡ length bytes →
    ((k : ℕ) → k < length bytes → slice_index_or now k (pos 0) ≡ f (get_or bytes k 0)) → now ≡ map f bytes
mapped_is f bytes now long at =
    same_lists now (map f bytes) (long ∙ sym (length-map bytes f)) (λ k d lt.
    let below : k < length bytes = omega (arith, lt, long) in
    get_or_default now k d (pos 0) lt ∙ at k below ∙ sym (get_or-map f bytes k 0 d below))
