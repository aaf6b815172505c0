-- The rooms that rows are joined to, after a termination enters, changes or leaves.
use Rattle.mg_engine.proofs.Common.{◌≡◌, ◌≢◌, ℕ, eqb, Bool, true, false, cond, List, Option, Some, None, refl, sym, ap, ◌∙◌, eqb-true, eq-eqb, ne_eqb, IsSound, Limits, Record, Registry, record_at, Place, IsOnPlace, AreJoined, SetsRow, room_for, start_of, room_of_row}
use Rattle.mg_engine.proofs.MemberLemmas.{SameOthers, no_record, another, unequal}
use Rattle.mg_engine.proofs.PlaceLemmas.{one_record, one_place}

no_room : (room : ℕ) → Option.Some room ≡ None → ⊥
no_room room h = cc h

-- A termination enters or changes. If it existed before, its slot is the same.
module _ (old new : Registry) (n : ℕ) (r : Record) (p : Place) (before after : List (Option ℕ)) (sound : IsSound new)
    (same : SameOthers old new n) (on : IsOnPlace new n r p)
    (mine : (was : Record) → record_at old n ≡ Some was → was.slot ≡ r.slot)
    (set : SetsRow before after r.slot (room_for r.mode p.room)) (h : AreJoined old before) where
  each_case : (m : ℕ) (x : Record) (q : Place) → IsOnPlace new m x q → (b : Bool) → eqb m n ≡ b →
      room_of_row after x.slot ≡ room_for x.mode q.room
  each_case m x q there true e =
      let at_n = eqb-true m n e in
      rw (one_record new m n x r there.found on.found at_n, one_place new m n x r q p there on at_n) (set r.slot ∙
      ap (λ (b : Bool). cond b (room_for r.mode p.room) (room_of_row before r.slot)) (eq-eqb r.slot r.slot refl))
  each_case m x q there false e =
      let apart = unequal m n e in
      set x.slot
      ∙ ap (λ (b : Bool). cond b (room_for r.mode p.room) (room_of_row before x.slot))
      (ne_eqb x.slot r.slot (λ equal. apart (sound.one_slot m n x r there.found on.found equal)))
      ∙ h.each m x q ((same m x q apart).1 there)

  nobody_case : (row room : ℕ) → room_of_row after row ≡ Some room → (b : Bool) → eqb row r.slot ≡ b → (m : ℕ) ×
      (x : Record) × (q : Place) × IsOnPlace new m x q × (x.slot ≡ row)
  nobody_case row room joined true e = (n, r, p, on, sym (eqb-true row r.slot e))
  nobody_case row room joined false e =
      let (m, x, q, there, slot) = h.nobody row room
      (sym (set row ∙ ap (λ (b : Bool). cond b (room_for r.mode p.room) (room_of_row before row)) e) ∙ joined) in
      let apart : m ≢ n = λ (equal : m ≡ n). unequal row r.slot e
      (sym slot ∙ mine x (ap (record_at old) (sym equal) ∙ there.found)) in
      (m, x, q, (same m x q apart).0 there, slot)

  pub joined_changed : AreJoined new after
  joined_changed = record {
    each = λ m x q there. each_case m x q there (eqb m n) refl;
    nobody = λ row room joined. nobody_case row room joined (eqb row r.slot) refl;
  }

-- A termination ends.
module _ (old new : Registry) (n : ℕ) (was : Record) (before after : List (Option ℕ)) (sound : IsSound old)
    (same : SameOthers old new n) (there : record_at old n ≡ Some was) (gone : record_at new n ≡ None)
    (set : SetsRow before after was.slot None) (h : AreJoined old before) where
  each_left : (m : ℕ) (x : Record) (q : Place) → IsOnPlace new m x q → room_of_row after x.slot ≡ room_for x.mode q.room
  each_left m x q on =
      let apart = another new m n x on.found gone in
      let at_first = (same m x q apart).1 on in
      set x.slot
      ∙ ap (λ (b : Bool). cond b None (room_of_row before x.slot))
      (ne_eqb x.slot was.slot (λ equal. apart (sound.one_slot m n x was at_first.found there equal)))
      ∙ h.each m x q at_first

  nobody_left : (row room : ℕ) → room_of_row after row ≡ Some room → (b : Bool) → eqb row was.slot ≡ b → (m : ℕ) ×
      (x : Record) × (q : Place) × IsOnPlace new m x q × (x.slot ≡ row)
  nobody_left row room joined true e = absurd
      (no_room room (sym joined ∙ set row ∙ ap (λ (b : Bool). cond b None (room_of_row before row)) e))
  nobody_left row room joined false e =
      let at_first = sym (set row ∙ ap (λ (b : Bool). cond b None (room_of_row before row)) e) ∙ joined in
      let (m, x, q, on, slot) = h.nobody row room at_first in
      let apart : m ≢ n = λ (equal : m ≡ n). unequal row was.slot e
      (sym slot ∙ ap (λ (y : Record). y.slot) (one_record old m n x was on.found there equal)) in
      (m, x, q, (same m x q apart).0 on, slot)

  pub joined_left : AreJoined new after
  joined_left = record {
    each = each_left;
    nobody = λ row room joined. nobody_left row room joined (eqb row was.slot) refl;
  }

-- If no row is joined to a room, the rows agree with a new gateway, which has no members.
pub joined_nowhere : (w : Registry) (limits : Limits) (joined : List (Option ℕ)) → w ≡ start_of limits →
    ((row : ℕ) → room_of_row joined row ≡ None) → AreJoined w joined
joined_nowhere w limits joined e none = record {
  each = λ n r p on. absurd (no_record r (sym on.found ∙ ap (λ (x : Registry). record_at x n) e));
  nobody = λ row room at_room. absurd (no_room room (sym at_room ∙ none row));
}
