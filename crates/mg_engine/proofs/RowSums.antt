-- Sums over the rows that are joined to a room, as sums over terminations.
use Rattle.mg_engine.proofs.Common.{◌≡◌, ℕ, ◌&&◌, eqb, Bool, true, false, cond, ℤ, pos, List, length, get_or, Option, Some, None, refl, ap, ◌∙◌, arith, range_with_len, eq-eqb, talks, termination_limit, Record, IsSound, Registry, Place, SumsState, total_of, AreJoined, room_for, sample_at, count_by, sum_of-filter, room_of_row, count-found, nat_tests, sum_of}
use Rattle.mg_sums.specs.Sums.{sample_in, is_room, is_joined, joined_rows}
use Rattle.mg_engine.proofs.SeatSums.{seat_sums}

-- ## Rows that are joined to a room

-- The row of a termination is joined to a room if and only if the termination talks and is in the room.
pub joined_is : (joined : List (Option ℕ)) (r : Record) (p : Place) (room : ℕ) →
    room_of_row joined r.slot ≡ room_for r.mode p.room →
    is_joined joined room r.slot ≡ (talks r.mode && eqb p.room room)
joined_is joined r p room h = grind (arith, nat_tests, h)

some_room : (o : Option ℕ) (room : ℕ) → is_room o room ≡ true → (at : ℕ) × (o ≡ Some at)
some_room (Some at) room h = (at, refl)
some_room None room h = absurd (cc h)

module _ (w : Registry) (kept : SumsState) (room i : ℕ) (sound : IsSound w) (joined : AreJoined w kept.rooms)
    (long : length kept.rooms ≡ termination_limit) where
  abbrev row_part : ℕ → ℤ
  row_part row = cond (is_joined kept.rooms room row) (sample_at kept.frames row i) (pos 0)

  abbrev pub joined_part : Record → ℤ
  joined_part t = cond (is_joined kept.rooms room t.slot) (sample_at kept.frames t.slot i) (pos 0)

  -- A row whose slot no termination holds is not joined to a room.
  silent_row : (row : ℕ) (b : Bool) → is_joined kept.rooms room row ≡ b →
      count_by (λ t. eqb t.slot row) w.terminations ≡ 0 → cond b (sample_at kept.frames row i) (pos 0) ≡ pos 0
  silent_row row true e none =
      let (at, is) = some_room (room_of_row kept.rooms row) room e in
      let (n, r, p, on, slot) = joined.nobody row at is in
      absurd (omega (
        arith,
        none,
        count-found (λ t. eqb t.slot row) (λ t. eqb t.number n) w.terminations r on.found (eq-eqb r.slot row slot),
      ))
  silent_row row false e none = refl

  total_by_rows : total_of kept room i ≡ sum_of row_part (range_with_len 0 termination_limit)
  unfolding joined_rows
  total_by_rows =
      sum_of-filter (is_joined kept.rooms room) (sample_in kept.frames i) (range_with_len 0 (length kept.rooms))
      ∙ ap (λ (n : ℕ). sum_of row_part (range_with_len 0 n)) long

  -- The total of a room is the sum over the terminations whose rows are joined to the room.
  pub total_by_terminations : total_of kept room i ≡ sum_of joined_part w.terminations
  total_by_terminations = total_by_rows
      ∙ seat_sums w.terminations (λ t. true) (λ t. t.slot) termination_limit row_part joined_part
      (λ j d lt. let r = get_or w.terminations j d in
      omega (arith, (sound.termination r.number r (sound.by_number j d lt)).1.slot, sound.consistent.limits.0.few_slots))
      (λ j d lt. refl)
      (λ row. sound.consistent.terminations.one_slot row)
      (λ row none. silent_row row (is_joined kept.rooms room row) refl none)
