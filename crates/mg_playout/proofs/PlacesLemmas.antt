-- The frames at places, before and after the frames move down.
use Rattle.std.proofs.Common.{◌≡◌, ℕ, zero, suc, ◌+◌, ◌-◌, ◌++◌, ap, min, ℤ, true, List, [], ◌∷◌, length, drop, Option, Some, None, arith, refl, sym, inl, inr, ◌∙◌}
use Rattle.std.proofs.lemmas.Bool.{cases_lt}
use Rattle.std.proofs.lemmas.List.{get_or_append_left, get_or-append_right, get_or-drop, get_or-replicate, get_or_past, length-drop, length-replicate}
use Rattle.mg_playout.specs.Places.{FramePlaces, frame_at, empty_places, fallen, has_no_frame}

-- Empty places have no frame.
pub frame_at-empty : (n i : ℕ) → frame_at (empty_places n) i ≡ None
frame_at-empty n i =
    elim (cases_lt i n) [
      | inl below ↦ get_or-replicate n i None None below
      | inr past ↦ get_or_past (empty_places n) i None (omega (arith, length-replicate {A = Option (List ℤ)} n None))
    ]

-- After moving down by `count`, place i has the frame that was at place `count + i`.
pub frame_at-fallen : (places : FramePlaces) (count i : ℕ) →
    frame_at (fallen places count) i ≡ frame_at places (count + i)
frame_at-fallen places count i =
    let rest : FramePlaces = drop count places in
    let long = length-drop count places in
    elim (cases_lt i (length rest)) [
      | inl below ↦ get_or_append_left rest (empty_places (min count (length places))) None i below ∙
          get_or-drop count places i None
      | inr past ↦ get_or-append_right rest (empty_places (min count (length places))) (length rest) i None refl past
          ∙ frame_at-empty (min count (length places)) (i - length rest)
          ∙ sym (get_or_past places (count + i) None (omega arith))
    ]

-- If no place has a frame, the frame at each place is `None`.
pub frame_at-has_no_frame : (places : FramePlaces) (i : ℕ) → has_no_frame places ≡ true → frame_at places i ≡ None
frame_at-has_no_frame [] i e = refl
frame_at-has_no_frame (None ∷ places) zero e = refl
frame_at-has_no_frame (None ∷ places) (suc i) e = frame_at-has_no_frame places i e
frame_at-has_no_frame (Some frame ∷ places) i e = cc

-- If no place has a frame, no place from `count` on has a frame.
pub has_no_frame-drop : (places : FramePlaces) (count : ℕ) → has_no_frame places ≡ true →
    has_no_frame (drop count places) ≡ true
has_no_frame-drop places zero e = e
has_no_frame-drop [] (suc count) e = refl
has_no_frame-drop (None ∷ places) (suc count) e = has_no_frame-drop places count e
has_no_frame-drop (Some frame ∷ places) (suc count) e = cc

-- If no place from `place` on has a frame, `place` has no frame.
pub frame_at-none : (places : FramePlaces) (place : ℕ) → has_no_frame (drop place places) ≡ true →
    frame_at places place ≡ None
frame_at-none [] place e = refl
frame_at-none (None ∷ places) zero e = refl
frame_at-none (Some frame ∷ places) zero e = cc
frame_at-none (x ∷ places) (suc place) e = frame_at-none places place e

-- An additional empty place does not change whether any place from `place` on has a frame.
pub has_no_frame-more : (places : FramePlaces) (place : ℕ) →
    has_no_frame (drop place (places ++ None ∷ [])) ≡ has_no_frame (drop place places)
has_no_frame-more [] zero = refl
has_no_frame-more [] (suc place) = has_no_frame-drop [] place refl
has_no_frame-more (None ∷ places) zero = has_no_frame-more places zero
has_no_frame-more (Some frame ∷ places) zero = refl
has_no_frame-more (x ∷ places) (suc place) = has_no_frame-more places place

-- After moving down by one, the places from `place` on have no frame if and only if those from `place + 1` on had none
-- before.
pub has_no_frame-fallen : (places : FramePlaces) (place : ℕ) →
    has_no_frame (drop place (fallen places 1)) ≡ has_no_frame (drop (suc place) places)
has_no_frame-fallen [] zero = refl
has_no_frame-fallen [] (suc place) = refl
has_no_frame-fallen (x ∷ places) place =
    let one : min 1 (suc (length places)) ≡ 1 = omega arith in
    ap (λ n. has_no_frame (drop place (places ++ empty_places n))) one ∙ has_no_frame-more places place
