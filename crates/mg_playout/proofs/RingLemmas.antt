-- The ring that stores the places.
use Rattle.std.proofs.Common.{◌≡◌, ℕ, zero, suc, ◌+◌, ◌-◌, ◌≤◌, ℤ, List, [], ◌∷◌, get_or, slice_get, length, Option, None, Some, arith, refl, subst, sym}
use Rattle.std.specs.Prelude.{IfSome}
use Rattle.std.specs.Option.{option_flatten}
use Rattle.std.proofs.lemmas.List.{length-replicate}
use Rattle.std.proofs.lemmas.List.Elements.{All-cons, All-replicate}
use Rattle.circular_buffer.specs.Buffer.{Buffer, buffer}
use Rattle.mg_g711.specs.Frame.{IsFrame}
use Rattle.mg_playout.specs.Places.{empty_places, started_with}
use Rattle.mg_playout.specs.aids.Ring.{IsRingOfPlaces}
use Rattle.mg_words.specs.declared.limits.TheConstants.{MIN_DEPTH, MAX_DEPTH}

-- The ring of a started play list is valid: no last frame, one frame, and empty places.
pub started_is_ring : (ring : Buffer (Option (List ℤ))) (frame : List ℤ) (depth : ℕ) → MIN_DEPTH ≤ depth →
    depth ≤ MAX_DEPTH → IsFrame frame → ring ≡ buffer (None ∷ started_with frame depth) (MAX_DEPTH + 1) →
    IsRingOfPlaces ring
started_is_ring ring frame depth low high whole is =
    let empty : List (Option (List ℤ)) = empty_places (depth - 1) in
    let long : length (started_with frame depth) ≡ depth =
    omega (arith, length-replicate {A = Option (List ℤ)} (depth - 1) None) in
    let items : IsRingOfPlaces (buffer (None ∷ started_with frame depth) (MAX_DEPTH + 1)) = record {
      capacity = refl;
      at_least = omega arith;
      at_most = omega arith;
      frames = All-cons (λ item. IfSome item IsFrame) None (started_with frame depth) tt
          (All-cons (λ item. IfSome item IsFrame) (Some frame) empty whole
          (All-replicate (λ item. IfSome item IsFrame) (depth - 1) None tt));
    } in
    subst IsRingOfPlaces (sym is) items

-- The item at an index of the ring, with `None` past the end.
pub flatten_of_get : {X : Type 0} (xs : List (Option X)) (i : ℕ) → option_flatten (slice_get xs i) ≡ get_or xs i None
flatten_of_get [] i = refl
flatten_of_get (x ∷ xs) zero = refl
flatten_of_get (x ∷ xs) (suc i) = flatten_of_get xs i
