-- The stored totals equal the gateway's totals.
use Rattle.mg_engine.proofs.Common.{◌≡◌, ℕ, ◌+◌, ◌<◌, ◌&&◌, eqb, Bool, true, false, cond, ℤ, pos, get_or, Option, Some, None, refl, sym, ap, ◌∙◌, nat_lt, arith, is_some, range_with_len, option_map, eqb-true, eq-eqb, ne_eqb, same_Some, Context, Record, talks, IsSound, record_at, context_at, members_at, Place, total_of, Gateway, IsOnPlace, EngineState, StandsFor, sample_at, count_by, lt-ltb, last_termination, Registry, IsMember, part_of_total, total, total_at, find-none, All, Inside, IsWholeEngine, list_any_at, sum_of-agree, view, counted_any, false_from_ne_true, sum_of}
use Rattle.mg_engine.proofs.FlowLemmas.{mode_found}
use Rattle.mg_engine.proofs.MemberLemmas.{unequal}
use Rattle.mg_engine.proofs.PlaceLemmas.{at, on_place}
use Rattle.mg_engine.proofs.RowSums.{joined_is, joined_part, total_by_terminations}
use Rattle.mg_engine.proofs.SeatSums.{seat_sums}
use Rattle.mg_engine.proofs.SentLemmas.{sample_is}

-- ## Members of a context

abbrev in_context : ℕ → Option Record → Bool
in_context c None = false
in_context c (Some r) = eqb r.context c

member_of : (c : ℕ) (o : Option Record) → in_context c o ≡ true → (r : Record) × (o ≡ Some r) × (r.context ≡ c)
member_of c (Some r) e = (r, refl, eqb-true r.context c e)
member_of c None e = absurd (cc e)

-- A sum over the members of a context is a sum over the terminations in that context.
module _ (w : Registry) (c : ℕ) (f : ℕ → ℤ) (sound : IsSound w) where
  abbrev numbers : ℕ
  numbers = last_termination + 1

  abbrev part : ℕ → ℤ
  part n = cond (in_context c (record_at w n)) (f n) (pos 0)

  abbrev pub context_part : Record → ℤ
  context_part t = cond (eqb t.context c) (f t.number) (pos 0)

  below : (n : ℕ) (r : Record) → record_at w n ≡ Some r → n < numbers
  below n r found = let (number, is) = sound.termination n r found in
      omega (arith, number, is.below, sound.consistent.last_termination)

  not_counted : (n : ℕ) → count_by (λ m. eqb m n) (members_at w c) ≡ 0 → part n ≡ pos 0
  not_counted n none = ap (λ (b : Bool). cond b (f n) (pos 0)) (false_from_ne_true (in_context c (record_at w n)) (λ e.
      let some = counted_any (λ m. eqb m n) (members_at w c) ((sound.members c n).1 (member_of c (record_at w n) e)) in
      absurd (omega (arith, none, some))))

  is_member : All (IsMember w c) (members_at w c)
  is_member j d lt = let n = get_or (members_at w c) j d in
      (sound.members c n).0 (list_any_at (λ m. eqb m n) (members_at w c) j d lt (eq-eqb n n refl))

  by_terminations : sum_of part (range_with_len 0 numbers) ≡ sum_of context_part w.terminations
  by_terminations = seat_sums w.terminations (λ t. true) (λ t. t.number) numbers part context_part
      (λ j d lt. below (get_or w.terminations j d).number (get_or w.terminations j d) (sound.by_number j d lt))
      (λ j d lt. ap (λ (o : Option Record). cond (in_context c o) (f (get_or w.terminations j d).number) (pos 0))
      (sym (sound.by_number j d lt))) (λ n. sound.consistent.terminations.one_number n)
      (λ n none. ap (λ (o : Option Record). cond (in_context c o) (f n) (pos 0))
      (find-none (λ r. eqb r.number n) w.terminations none))

  by_members : sum_of part (range_with_len 0 numbers) ≡ sum_of f (members_at w c)
  by_members = seat_sums (members_at w c) (λ m. true) (λ m. m) numbers part f
      (λ j d lt. let (r, found, context) = is_member j d lt in below (get_or (members_at w c) j d) r found)
      (λ j d lt. let (r, found, context) = is_member j d lt in
      sym (ap (λ (o : Option Record). cond (in_context c o) (f (get_or (members_at w c) j d)) (pos 0)) found ∙
      ap (λ (b : Bool). cond b (f (get_or (members_at w c) j d)) (pos 0)) (eq-eqb r.context c context)))
      (sound.once c)
      not_counted

  pub sum_of_members : sum_of f (members_at w c) ≡ sum_of context_part w.terminations
  sum_of_members = sym by_members ∙ by_terminations

-- ## The total of a context

talking_part : (t e : Bool) (z : ℤ) → cond (t && e) z (pos 0) ≡ cond e (cond t z (pos 0)) (pos 0)
talking_part true e z = refl
talking_part false true z = refl
talking_part false false z = refl

module _ (inside : Inside) (w : Gateway) (c i : ℕ) (x : Context) (whole : IsWholeEngine inside)
    (h : StandsFor (view inside) w) (context : context_at inside.rooms c ≡ Some x) where
  abbrev k : EngineState
  k = view inside

  same_room : (t : Record) (q : Place) → IsOnPlace k.rooms t.number t q → (b : Bool) → eqb t.context c ≡ b →
      eqb q.room x.room ≡ b
  same_room t q on true e =
      let a = at k.rooms t q on.place in
      let equal : a.context ≡ x = same_Some a.context x
      (sym a.found ∙ ap (context_at k.rooms) (eqb-true t.context c e) ∙ context) in
      eq-eqb q.room x.room (a.room ∙ ap (λ (y : Context). y.room) equal)
  same_room t q on false e =
      let a = at k.rooms t q on.place in
      ne_eqb q.room x.room (λ same. unequal t.context c e
      (whole.sound.one_room t.context c a.context x a.found context (sym a.room ∙ same)))

  part_is : (t : Record) → record_at k.rooms t.number ≡ Some t →
      joined_part k.rooms k.sums x.room i whole.sound whole.joined whole.row_count t ≡
      cond (eqb t.context c) (part_of_total w i t.number) (pos 0)
  part_is t found =
      let (q, on) = on_place k.rooms t.number t whole.sound found in
      let z = sample_at k.sums.frames t.slot i in
      ap (λ (b : Bool). cond b z (pos 0)) (joined_is k.sums.rooms t q x.room (whole.joined.each t.number t q on) ∙
      ap (λ (b : Bool). talks t.mode && b) (same_room t q on (eqb t.context c) refl))
      ∙ talking_part (talks t.mode) (eqb t.context c) z
      ∙ λ j. cond (eqb t.context c) (cond (talks (sym (mode_found k w t.number t h found) j))
      (sym (sample_is k w t i h found) j) (pos 0)) (pos 0)

  pub total_is : total_of k.sums x.room i ≡ total w c i
  total_is = total_by_terminations k.rooms k.sums x.room i whole.sound whole.joined whole.row_count
      ∙ sum_of-agree (joined_part k.rooms k.sums x.room i whole.sound whole.joined whole.row_count)
      (λ (t : Record). cond (eqb t.context c) (part_of_total w i t.number) (pos 0)) k.rooms.terminations
      (λ j d lt. part_is (get_or k.rooms.terminations j d) (whole.sound.by_number j d lt))
      ∙ sym (sum_of_members k.rooms c (part_of_total w i) whole.sound)
      ∙ ap (λ (y : Registry). sum_of (part_of_total w i) (members_at y c)) (sym h.rooms)

-- ## A total that a caller asks for

abbrev some : ℤ → Option ℤ
some z = Some z

pub context_with : (o : Option Context) (room : ℕ) → option_map (λ x. x.room) o ≡ Some room → (x : Context) ×
    (o ≡ Some x) × (x.room ≡ room)
context_with (Some x) room h = (x, refl, same_Some x.room room h)
context_with None room h = absurd (cc h)

pub total_there : (k : EngineState) (w : Gateway) (c i : ℕ) (x : Context) → StandsFor k w → i < 160 →
    context_at k.rooms c ≡ Some x → some (total w c i) ≡ total_at w c i
total_there k w c i x h lt found = ap (λ (b : Bool). cond b (some (total w c i)) None) (sym (lt-ltb i 160 lt))
    ∙ ap (λ (b : Bool). cond (b && nat_lt i 160) (some (total w c i)) None) (sym (ap is_some found))
    ∙ ap (λ (y : Registry). cond (is_some (context_at y c) && nat_lt i 160) (some (total w c i)) None)
    (sym h.rooms)
