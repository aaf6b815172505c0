-- The slots of members, by their places.
use Rattle.mg_engine.proofs.Common.{arith, ◌≡◌, ◌≢◌, ℕ, ◌<◌, eqb, Bool, true, false, List, length, set, None, refl, sym, ◌∙◌, eqb-true, get_or-set_same, get_or-set_other, Record, IsSound, Registry, record_at, Place, IsOnPlace, place_count, slot_at, AreSeated, index_of}
use Rattle.mg_engine.proofs.PlaceLemmas.{within, one_member, one_place, one_record}
use Rattle.mg_engine.proofs.MemberLemmas.{SameOthers, another, unequal}

-- The places of all members except n have the members' slots.
abbrev pub OthersSeated : Registry → ℕ → List ℕ → Type 0
OthersSeated w n seating = (m : ℕ) (x : Record) (q : Place) → m ≢ n → IsOnPlace w m x q → slot_at seating q ≡ x.slot

pub carry_seats : (old new : Registry) (n : ℕ) (seating : List ℕ) → SameOthers old new n → AreSeated old seating →
    OthersSeated new n seating
carry_seats old new n seating same h m x q apart on = h m x q ((same m x q apart).1 on)

module _ (w : Registry) (n : ℕ) (r : Record) (p : Place) (seating : List ℕ) (long : length seating ≡ place_count)
    (sound : IsSound w) (on : IsOnPlace w n r p) where
  put_case : OthersSeated w n seating → (m : ℕ) (x : Record) (q : Place) → IsOnPlace w m x q → (b : Bool) →
      eqb m n ≡ b → slot_at (set seating (index_of p) r.slot) q ≡ x.slot
  put_case h m x q there true e =
      let same = eqb-true m n e in
      let inside = within w n r p sound on in
      let lt : index_of p < length seating = omega (arith, inside.room, inside.seat, long) in
      rw (one_place w m n x r q p there on same, one_record w m n x r there.found on.found same)
      (get_or-set_same seating (index_of p) r.slot 0 lt)
  put_case h m x q there false e =
      let a = within w n r p sound on in
      let b = within w m x q sound there in
      get_or-set_other seating (index_of p) (index_of q) r.slot 0 (λ same.
      let room : q.room ≡ p.room = omega (arith, same, a.seat, b.seat) in
      let seat : q.seat ≡ p.seat = omega (arith, same, a.seat, b.seat) in
      unequal m n e (one_member w m n x r q p sound there on room seat))
      ∙ h m x q (unequal m n e) there

  pub seated_put : OthersSeated w n seating → AreSeated w (set seating (index_of p) r.slot)
  seated_put h m x q there = put_case h m x q there (eqb m n) refl

-- If n does not exist, the places of all members have the members' slots.
pub seated_all : (w : Registry) (n : ℕ) (seating : List ℕ) → record_at w n ≡ None → OthersSeated w n seating →
    AreSeated w seating
seated_all w n seating none h m x q on = h m x q (another w m n x on.found none) on

-- The termination n has a new record, with the same slot and place.
module _ (old new : Registry) (n : ℕ) (was r : Record) (p : Place) (seating : List ℕ) (same : SameOthers old new n)
    (there : IsOnPlace old n was p) (on : IsOnPlace new n r p) (slot : r.slot ≡ was.slot) where
  mode_case : AreSeated old seating → (m : ℕ) (x : Record) (q : Place) → IsOnPlace new m x q → (b : Bool) →
      eqb m n ≡ b → slot_at seating q ≡ x.slot
  mode_case h m x q at true e =
      let at_n = eqb-true m n e in
      rw (one_place new m n x r q p at on at_n, one_record new m n x r at.found on.found at_n)
      (h n was p there ∙ sym slot)
  mode_case h m x q at false e = h m x q ((same m x q (unequal m n e)).1 at)

  pub seated_mode : AreSeated old seating → AreSeated new seating
  seated_mode h m x q at = mode_case h m x q at (eqb m n) refl
