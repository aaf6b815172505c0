-- An entry that is found with a hint is the entry that a search finds.
use Rattle.mg_rooms.proofs.Common.{◌≡◌, ℕ, zero, suc, ◌+◌, Bool, true, List, [], ◌∷◌, Option, Some, None, refl, sym, ◌∙◌, arith, slice_get, eqb-true, position_from, has_key}
use Rattle.std.proofs.lemmas.Bool.{false≢true}
use Rattle.std.proofs.lemmas.Bool.Decides.{nat_tests}
use Rattle.mg_rooms.specs.aids.Tables.{HoldsOnce}

-- If only one index of a table passes the test, the search finds this index.
only_there : {A : Type 0} (p : A → Bool) (k : ℕ) (t : List A) (s : ℕ) (o : A) → slice_get t s ≡ Some o → p o ≡ true →
    ((i : ℕ) (x : A) → slice_get t i ≡ Some x → p x ≡ true → i ≡ s) → Some (s + k) ≡ position_from p k t
only_there p k [] s o at e only = absurd (cc)
only_there p k (x ∷ t) zero o at e only = grind (arith, nat_tests)
only_there p k (x ∷ t) (suc s) o at e only =
    let rest = only_there p (k + 1) t s o at e (λ i y there passes. let same = only (suc i) y there passes in omega arith)
    in
    grind (arith, nat_tests, only 0 x refl, rest)

-- If an entry has the key, the search for the key finds this entry, since the key occurs once.
pub found_here : {A : Type 0} (key : A → ℕ) (t : List (Option A)) (s n : ℕ) (o : Option A) → HoldsOnce key t →
    slice_get t s ≡ Some o → has_key key n o ≡ true → Some s ≡ position_from (has_key key n) 0 t
found_here key t s n None once at e = absurd (false≢true e)
found_here key t s n (Some y) once at e =
    let is : s + 0 ≡ s = omega arith in rw is at (only_there (has_key key n) 0 t s (Some y) at e same)
  where
    same : (i : ℕ) (o : Option _) → slice_get t i ≡ Some o → has_key key n o ≡ true → i ≡ s
    same i None there passes = absurd (false≢true passes)
    same i (Some x) there passes = once i s x y there at (eqb-true (key x) n passes ∙ sym (eqb-true (key y) n e))
