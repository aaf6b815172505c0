-- Sums over the seats of a mask, as sums over the terminations in these seats.
use Rattle.mg_engine.proofs.Common.{◌≡◌, ℕ, ◌≤◌, ◌&&◌, eqb, Bool, true, false, cond, ℤ, pos, List, map, get_or, Option, Some, None, refl, sym, ap, ◌∙◌, arith, range_with_len, option_map, eqb-true, eq-eqb, ne_eqb, seat_limit, has_seat, Record, record_at, context_at, IsSound, Place, sibling_place, nearest_sample, sum_of-same, place_of, IsOnPlace, slot_at, AreSeated, sample_at, flows_between, heard_now, byte_of, map_agree, EngineState, IsTrue, count_by, and_from, Registry, RoomFlows, flows, is_seated_in, sits_among, heard_on, payload_on, count-found, sum_of}
use Rattle.mg_topology.specs.Mask.{seats_of}
use Rattle.mg_g711.specs.declared.law.Law.{Law}
use Rattle.mg_engine.proofs.MemberLemmas.{unequal}
use Rattle.mg_engine.proofs.PlaceLemmas.{seated, place, at, on_place, in_one_context, hears_apart, no_hearing}
use Rattle.mg_engine.proofs.SeatSums.{sum-seats_of, seat_sums}

-- ## The members in the seats of a mask

-- The test holds for the places in the room whose seats are in the mask, and for no place in another room.
module _ (p : Place) (mask : ℕ) (test : Place → Bool)
    (kept : (seat : ℕ) → has_seat mask seat ≡ test (sibling_place p seat))
    (apart : (q : Place) → eqb q.room p.room ≡ false → test q ≡ false) where
  seated_by : (q : Place) (b : Bool) → eqb q.room p.room ≡ b → (eqb q.room p.room && has_seat mask q.seat) ≡ test q
  seated_by q true e = ap (λ (b : Bool). b && has_seat mask q.seat) e ∙ kept q.seat ∙
      ap (λ (r : ℕ). test (record { room = r; seat = q.seat })) (sym (eqb-true q.room p.room e))
  seated_by q false e = ap (λ (b : Bool). b && has_seat mask q.seat) e ∙ sym (apart q e)

  pub seated_is : (q : Place) → is_seated_in p.room mask (Some q) ≡ test q
  seated_is q = seated_by q (eqb q.room p.room) refl

-- ## The speech that a listener hears

pub flows_apart : (table : List RoomFlows) (p q : Place) → eqb p.room q.room ≡ false → flows table p q ≡ false
flows_apart table p q e = no_hearing table p q (hears_apart table p q e)

module _ (k : EngineState) (l : Record) (p : Place) (mask : ℕ) (on : place_of k.rooms l ≡ Some p)
    (kept : (seat : ℕ) → has_seat mask seat ≡ flows k.flows (sibling_place p seat) p) where
  flows_by : (o : Option Place) → flows_between k.flows o (Some p) ≡ is_seated_in p.room mask o
  flows_by (Some q) = sym (seated_is p mask (λ x. flows k.flows x p) kept (λ x e. flows_apart k.flows x p e) q)
  flows_by None = refl

  -- A listener hears the members whose seats are in the mask of open talkers.
  pub heard_is_on : (i : ℕ) → heard_now k l i ≡ heard_on k p.room mask i
  heard_is_on i = sum_of-same _ _ k.rooms.terminations (λ t.
      ap (λ (o : Option Place). cond (flows_between k.flows (place_of k.rooms t) o) (sample_at k.sums.frames t.slot i)
      (pos 0)) on
      ∙ ap (λ (b : Bool). cond b (sample_at k.sums.frames t.slot i) (pos 0)) (flows_by (place_of k.rooms t)))

  -- The listener's payload is the payload for the members whose seats are in the mask.
  pub payload_is_on : (law : Law) → map (byte_of law)
      (map (λ i. nearest_sample (heard_now k l i)) (range_with_len 0 160)) ≡ payload_on k p.room mask law
  payload_is_on law = ap (λ (xs : List ℤ). map (byte_of law) xs)
      (map_agree (λ i. nearest_sample (heard_now k l i)) (λ i. nearest_sample (heard_on k p.room mask i))
      (range_with_len 0 160) (λ i. ap nearest_sample (heard_is_on i)))

-- ## Sums over seats

module _ (w : Registry) (seating : List ℕ) (l : Record) (p : Place) (mask : ℕ) (sound : IsSound w)
    (seats : AreSeated w seating) (here : place_of w l ≡ Some p)
    (held : (seat : ℕ) → IsTrue (has_seat mask seat) → (n : ℕ) × (r : Record) × IsOnPlace w n r (sibling_place p seat))
    (f : ℕ → ℤ) where
  abbrev on_seat : ℕ → ℤ
  on_seat seat = f (slot_at seating (record { room = p.room; seat = seat }))

  abbrev seat_part : ℕ → ℤ
  seat_part seat = cond (has_seat mask seat) (on_seat seat) (pos 0)

  abbrev pub seated_part : Record → ℤ
  seated_part t = cond (sits_among w p.room mask t) (f t.slot) (pos 0)

  -- A termination in the listener's context has its place in the listener's room.
  beside_it : (t : Record) → t.context ≡ l.context → place_of w t ≡ Some (sibling_place p t.seat)
  beside_it t same =
      let a = at w l p here in
      ap (λ (c : ℕ). option_map (seated t.seat) (context_at w c)) same ∙ ap (option_map (seated t.seat)) a.found ∙
      ap (λ (r : ℕ). place (record { room = r; seat = t.seat })) (sym a.room)

  part_is : (t : Record) (b : Bool) → record_at w t.number ≡ Some t → eqb t.context l.context ≡ b →
      seated_part t ≡ cond b (seat_part t.seat) (pos 0)
  part_is t true found e =
      let on = beside_it t (eqb-true t.context l.context e) in
      let slot : slot_at seating (sibling_place p t.seat) ≡ t.slot =
      seats t.number t (sibling_place p t.seat) (record { found = found; place = on }) in
      ap (λ (o : Option Place). cond (is_seated_in p.room mask o) (f t.slot) (pos 0)) on
      ∙ ap (λ (b : Bool). cond (b && has_seat mask t.seat) (f t.slot) (pos 0)) (eq-eqb p.room p.room refl)
      ∙ ap (λ (s : ℕ). cond (has_seat mask t.seat) (f s) (pos 0)) (sym slot)
  part_is t false found e =
      let (q, on) = on_place w t.number t sound found in
      ap (λ (o : Option Place). cond (is_seated_in p.room mask o) (f t.slot) (pos 0)) on.place ∙
      ap (λ (b : Bool). cond (b && has_seat mask q.seat) (f t.slot) (pos 0)) (ne_eqb q.room p.room
      (λ same. unequal t.context l.context e (in_one_context w t l q p sound on.place here same)))

  -- Each seat of the mask belongs to a member of the listener's context.
  counted : (seat : ℕ) → IsTrue (has_seat mask seat) →
      1 ≤ count_by (λ t. eqb t.context l.context && eqb t.seat seat) w.terminations
  counted seat h =
      let (n, r, on) = held seat h in
      let same = in_one_context w r l (sibling_place p seat) p sound on.place here refl in
      count-found (λ t. eqb t.context l.context && eqb t.seat seat) (λ t. eqb t.number n) w.terminations r on.found
      (and_from (eqb r.context l.context) (eqb r.seat seat) (eq-eqb r.context l.context same)
      (eq-eqb r.seat seat (sym (at w r (sibling_place p seat) on.place).seat)))

  silent_at : (seat : ℕ) (b : Bool) → has_seat mask seat ≡ b →
      count_by (λ t. eqb t.context l.context && eqb t.seat seat) w.terminations ≡ 0 →
      cond b (on_seat seat) (pos 0) ≡ pos 0
  silent_at seat true e none = absurd (omega (arith, counted seat e, none))
  silent_at seat false e none = refl

  pub sum_on_seats : sum_of on_seat (seats_of mask) ≡ sum_of seated_part w.terminations
  sum_on_seats = sum-seats_of mask on_seat
      ∙ seat_sums w.terminations (λ t. eqb t.context l.context) (λ t. t.seat) seat_limit seat_part seated_part
      (λ j d lt. let r = get_or w.terminations j d in
      omega (arith, (sound.termination r.number r (sound.by_number j d lt)).1.seat))
      (λ j d lt. let r = get_or w.terminations j d in
      part_is r (eqb r.context l.context) (sound.by_number j d lt) refl)
      (λ seat. sound.consistent.terminations.one_seat l.context seat)
      (λ seat none. silent_at seat (has_seat mask seat) refl none)
