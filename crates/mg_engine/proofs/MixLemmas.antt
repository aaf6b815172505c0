-- A listener hears the total of its room, without its own row and the rows of the talkers that are silenced for it.
use Rattle.mg_engine.proofs.Common.{◌≡◌, ◌≢◌, ℕ, ◌<◌, ◌&&◌, not, eqb, Bool, true, false, cond, ℤ, pos, ◌+ℤ◌, List, [], ◌∷◌, length, map, get_or, Option, Some, None, refl, sym, ap, ◌∙◌, arith, All, range_with_len, eqb-true, eq-eqb, get_or-map, length-map, sum_by-cons, seat_limit, has_seat, Record, record_at, Place, sibling_place, SumsState, total_of, nearest_sample, sum_of-cons, sum_of-same, place_of, IsOnPlace, EngineState, Inside, IsWholeEngine, view, talks, listens, slot_at, sample_at, heard_now, silenced_now, map_agree, IsTrue, AllPairs, count_by, All-cons, All-map, filter_passes, All-weaker, sits_among, is_seated_in, ints, length-range_with_len, get_or-range_with_len, sum_of-map, sum_of-nil, sum_of-plus, is_silenced_between, part_now, and-false, and_parts, count-found, sum_of-ones, sum_of-agree, true≢false, sum_of}
use Rattle.std.proofs.lemmas.List.Kept.{AllPairs-cons, AllPairs-filter}
use Rattle.mg_topology.specs.Mask.{seats_of}
use Rattle.mg_flow.specs.aids.Table as flow
use Rattle.mg_sums.specs.Sums.{AreOfRoom, sample_in, is_joined, heard_of, left_out_by, mix_of}
use Rattle.mg_engine.proofs.FlowLemmas.{nobody_hears_itself, silenced_apart, not_itself}
use Rattle.mg_engine.proofs.MaskLemmas.{flows_apart, seated_is, sum_on_seats}
use Rattle.mg_engine.proofs.MemberLemmas.{seats_differ, unequal}
use Rattle.mg_engine.proofs.PlaceLemmas.{no_hearing, one_record, one_place, on_place, in_one_context}
use Rattle.mg_engine.proofs.RowSums.{joined_is, total_by_terminations}
use Rattle.mg_engine.proofs.SeatSums.{one_passes}

-- ## The part of one termination in a total

-- Each part of the total belongs to the listener, to a silenced talker, or to a heard talker.
abbrev Splits : ℤ → Bool → Bool → Bool → Bool → Type 0
Splits z joined own silenced heard =
    cond joined z (pos 0) ≡ (cond own z (pos 0) +ℤ cond silenced z (pos 0)) +ℤ cond heard z (pos 0)

own_splits : (z : ℤ) (b : Bool) → Splits z (b && true) (true && b) false false
own_splits z true = omega (arith, ints)
own_splits z false = omega (arith, ints)

none_splits : (z : ℤ) → Splits z false false false false
none_splits z = omega (arith, ints)

other_splits : (z : ℤ) (a b : Bool) → Splits z (a && true) false (a && not b) (a && b)
other_splits z true true = omega (arith, ints)
other_splits z true false = omega (arith, ints)
other_splits z false b = omega (arith, ints)

-- ## Seats of a mask and their rows

range_apart : (n : ℕ) → AllPairs (λ a b. a ≢ b) (range_with_len 0 n)
range_apart n i j d lt within same =
    let below : j < n = omega (arith, within, length-range_with_len 0 n) in
    let first = get_or-range_with_len 0 n i d (omega (arith, lt, below)) in
    omega (arith, same, lt, first, get_or-range_with_len 0 n j d below)

seats_apart : (mask : ℕ) → AllPairs (λ a b. a ≢ b) (seats_of mask)
unfolding seats_of
seats_apart mask = AllPairs-filter (λ a b. a ≢ b) (has_seat mask) (range_with_len 0 seat_limit) (range_apart seat_limit)

seats_pass : (mask : ℕ) → All (λ seat. IsTrue (has_seat mask seat)) (seats_of mask)
unfolding seats_of
seats_pass mask = filter_passes (has_seat mask) (range_with_len 0 seat_limit)

-- Mapping different numbers with an injective function yields different numbers.
mapped_apart : (f : ℕ → ℕ) (P : ℕ → Type 0) (xs : List ℕ) → All P xs → ((a b : ℕ) → P a → P b → f a ≡ f b → a ≡ b) →
    AllPairs (λ a b. a ≢ b) xs → AllPairs (λ a b. a ≢ b) (map f xs)
mapped_apart f P xs all inj apart i j d lt within same =
    let below : j < length xs = omega (arith, within, length-map xs f) in
    let first = get_or-map f xs i 0 d (omega (arith, lt, below)) in
    let second = get_or-map f xs j 0 d below in
    apart i j 0 lt below (inj (get_or xs i 0) (get_or xs j 0) (all i 0 (omega (arith, lt, below))) (all j 0 below)
    (sym first ∙ same ∙ second))

counted_ones : {A : Type 0} (p : A → Bool) (xs : List A) →
    sum_of (λ x. cond (p x) (pos 1) (pos 0)) xs ≡ pos (count_by p xs)
counted_ones p [] = sum_of-nil (λ x. cond (p x) (pos 1) (pos 0))
counted_ones p (x ∷ xs) =
    let more = sum_of-cons (λ y. cond (p y) (pos 1) (pos 0)) x xs in
    grind (arith, ints, more, counted_ones p xs, sum_by-cons (λ y. cond (p y) 1 0) x xs)

same_number : (m n : ℕ) → pos m ≡ pos n → m ≡ n
same_number m n e = cc e

-- ## A listener's mix

-- A total is the sum of the rows that are left out plus the sum of the rows that are heard.
abbrev pub IsLeftAndHeard : SumsState → ℕ → List ℕ → Type 0
IsLeftAndHeard kept room out = (i : ℕ) → total_of kept room i ≡
    sum_of (sample_in kept.frames i) out +ℤ heard_of kept room out i

module _ (inside : Inside) (l : Record) (p : Place) (mask : ℕ) (whole : IsWholeEngine inside)
    (on : IsOnPlace inside.rooms l.number l p) (listening : listens l.mode ≡ true)
    (kept : (seat : ℕ) → has_seat mask seat ≡ flow.is_silenced inside.flows (sibling_place p seat) p)
    (holds : (seat : ℕ) → IsTrue (has_seat mask seat) → IsTrue (flow.holds inside.flows (sibling_place p seat))) where
  abbrev k : EngineState
  k = view inside

  abbrev row_on : ℕ → ℕ
  row_on seat = slot_at inside.seating (record { room = p.room; seat = seat })

  abbrev pub base : Option ℕ
  base = cond (talks l.mode) (Some l.slot) None

  abbrev pub minus : List ℕ
  minus = map row_on (seats_of mask)

  held : (seat : ℕ) → IsTrue (has_seat mask seat) → (n : ℕ) × (r : Record) × IsOnPlace k.rooms n r (sibling_place p seat)
  held seat h = whole.members.nobody (sibling_place p seat) (holds seat h)

  silenced_is : (o : Option Place) → is_seated_in p.room mask o ≡ is_silenced_between k.flows o (Some p)
  silenced_is (Some q) = seated_is p mask (λ x. flow.is_silenced k.flows x p) kept
      (λ x e. silenced_apart k.flows x p e) q
  silenced_is None = refl

  -- ## The rows that are left out

  -- A member whose seat is in the mask of silenced talkers talks.
  talks_there : (seat : ℕ) (n : ℕ) (r : Record) → IsTrue (has_seat mask seat) →
      IsOnPlace k.rooms n r (sibling_place p seat) → talks r.mode ≡ true
  talks_there seat n r h at = sym (whole.members.each n r (sibling_place p seat) at).talks
      ∙ (and_parts (flow.talks_at k.flows (sibling_place p seat)) _ (sym (kept seat) ∙ h)).0

  row_joined : (seat : ℕ) → IsTrue (has_seat mask seat) → IsTrue (is_joined k.sums.rooms p.room (row_on seat))
  row_joined seat h =
      let (n, r, at) = held seat h in
      let joins = joined_is k.sums.rooms r (sibling_place p seat) p.room
      (whole.joined.each n r (sibling_place p seat) at) in
      rw (whole.seats n r (sibling_place p seat) at, joins, talks_there seat n r h at) (eq-eqb p.room p.room refl)

  rows_differ : (a b : ℕ) → IsTrue (has_seat mask a) → IsTrue (has_seat mask b) → row_on a ≡ row_on b → a ≡ b
  rows_differ a b h g same =
      let (m, r, at) = held a h in
      let (n, s, to) = held b g in
      let equal = whole.sound.one_slot m n r s at.found to.found
      (sym (whole.seats m r (sibling_place p a) at) ∙ same ∙ whole.seats n s (sibling_place p b) to) in
      ap (λ (x : Place). x.seat) (one_place k.rooms m n r s (sibling_place p a) (sibling_place p b) at to equal)

  minus_joined : All (λ row. IsTrue (is_joined k.sums.rooms p.room row)) minus
  minus_joined = All-map (λ row. IsTrue (is_joined k.sums.rooms p.room row)) row_on (seats_of mask)
      (All-weaker (λ seat. IsTrue (has_seat mask seat)) (λ seat. IsTrue (is_joined k.sums.rooms p.room (row_on seat)))
      row_joined (seats_of mask) (seats_pass mask))

  minus_apart : AllPairs (λ a b. a ≢ b) minus
  minus_apart = mapped_apart row_on (λ seat. IsTrue (has_seat mask seat)) (seats_of mask) (seats_pass mask)
      rows_differ (seats_apart mask)

  -- A listener is not silenced for itself.
  own_apart : (seat : ℕ) → IsTrue (has_seat mask seat) → l.slot ≢ row_on seat
  own_apart seat h same =
      let (n, r, at) = held seat h in
      let equal = whole.sound.one_slot l.number n l r on.found at.found
      (same ∙ whole.seats n r (sibling_place p seat) at) in
      let here = one_place k.rooms l.number n l r p (sibling_place p seat) on at equal in
      true≢false (sym h ∙ kept seat ∙ ap (λ (q : Place). flow.is_silenced k.flows q p) (sym here) ∙ not_itself k.flows p)

  out_by : (b : Bool) → talks l.mode ≡ b →
      AreOfRoom k.sums.rooms p.room (left_out_by (cond b (Some l.slot) None) minus)
  out_by true e = record {
    joined = All-cons (λ row. IsTrue (is_joined k.sums.rooms p.room row)) l.slot minus
        (joined_is k.sums.rooms l p p.room (whole.joined.each l.number l p on) ∙
        ap (λ (b : Bool). b && eqb p.room p.room) e ∙ eq-eqb p.room p.room refl) minus_joined;
    different = AllPairs-cons (λ a b. a ≢ b) l.slot minus (All-map (λ row. l.slot ≢ row) row_on (seats_of mask)
        (All-weaker (λ seat. IsTrue (has_seat mask seat)) (λ seat. l.slot ≢ row_on seat) own_apart (seats_of mask)
        (seats_pass mask))) minus_apart;
  }
  out_by false e = record { joined = minus_joined; different = minus_apart }

  pub left_out : AreOfRoom k.sums.rooms p.room (left_out_by base minus)
  left_out = out_by (talks l.mode) refl

  -- ## The number of silenced talkers

  pub how_many : length minus ≡ silenced_now k l
  how_many = length-map (seats_of mask) row_on ∙ same_number (length (seats_of mask)) (silenced_now k l)
      (sym (sum_of-ones (seats_of mask))
      ∙ sum_on_seats k.rooms inside.seating l p mask whole.sound whole.seats on.place held (λ slot. pos 1)
      ∙ sum_of-same _ (λ t. cond (is_silenced_between k.flows (place_of k.rooms t) (place_of k.rooms l)) (pos 1) (pos 0))
      k.rooms.terminations (λ t. ap (λ (b : Bool). cond b (pos 1) (pos 0)) (silenced_is (place_of k.rooms t) ∙
      ap (is_silenced_between k.flows (place_of k.rooms t)) (sym on.place)))
      ∙ counted_ones (λ (t : Record). is_silenced_between k.flows (place_of k.rooms t) (place_of k.rooms l))
      k.rooms.terminations)

  -- ## The sum of the rows that are heard

  module _ (i : ℕ) where
    abbrev sample_of : Record → ℤ
    sample_of t = sample_at k.sums.frames t.slot i

    abbrev total_part : Record → ℤ
    total_part t = cond (is_joined k.sums.rooms p.room t.slot) (sample_of t) (pos 0)

    abbrev own_part : Record → ℤ
    own_part t = cond (eqb t.number l.number && talks l.mode) (sample_of t) (pos 0)

    abbrev silenced_part : Record → ℤ
    silenced_part t = cond (sits_among k.rooms p.room mask t) (sample_of t) (pos 0)

    split_at : (t : Record) (q : Place) → IsOnPlace k.rooms t.number t q → (b : Bool) → eqb t.number l.number ≡ b →
        (c : Bool) → eqb q.room p.room ≡ c
        → Splits (sample_of t) (talks t.mode && eqb q.room p.room) (b && talks l.mode)
        (flow.is_silenced k.flows q p) (flow.flows k.flows q p)
    split_at t q at true e c f =
        let equal = eqb-true t.number l.number e in
        let is = one_record k.rooms t.number l.number t l at.found on.found equal in
        let here = one_place k.rooms t.number l.number t l q p at on equal in
        let unheard = no_hearing k.flows p p (nobody_hears_itself k.flows p) in
        rw (is, here, not_itself k.flows p, unheard, eq-eqb p.room p.room refl) (own_splits (sample_of l) (talks l.mode))
    split_at t q at false e false f =
        rw (silenced_apart k.flows q p f, flows_apart k.flows q p f, f, and-false (talks t.mode))
        (none_splits (sample_of t))
    split_at t q at false e true f =
        let seat = seats_differ k.rooms t.number l.number t l q p whole.sound (record {
          first = at;
          second = on;
          same = in_one_context k.rooms t l q p whole.sound at.place on.place (eqb-true q.room p.room f);
          apart = unequal t.number l.number e;
        }) in
        let from = whole.members.each t.number t q at in
        let to = whole.members.each l.number l p on in
        let quiet : flow.is_silenced k.flows q p ≡ (talks t.mode && not (flow.hears k.flows q p)) =
        rw (from.talks, from.held, to.held, f, seat) refl in
        let loud : flow.flows k.flows q p ≡ (talks t.mode && flow.hears k.flows q p) =
        rw (from.talks, to.listens, listening) refl in
        rw (quiet, loud, f) (other_splits (sample_of t) (talks t.mode) _)

    split : (t : Record) → record_at k.rooms t.number ≡ Some t →
        total_part t ≡ (own_part t +ℤ silenced_part t) +ℤ part_now k l i t
    split t found =
        let (q, at) = on_place k.rooms t.number t whole.sound found in
        let joins = joined_is k.sums.rooms t q p.room (whole.joined.each t.number t q at) in
        rw (joins, at.place, on.place, silenced_is (Some q))
        (split_at t q at (eqb t.number l.number) refl (eqb q.room p.room) refl)

    -- ## The listener's own row

    own_sum : sum_of own_part k.rooms.terminations ≡ cond (talks l.mode) (sample_of l) (pos 0)
    own_sum =
        let rs = k.rooms.terminations in
        let z = cond (talks l.mode) (sample_of l) (pos 0) in
        let some = count-found (λ (t : Record). eqb t.number l.number) (λ (t : Record). eqb t.number l.number) rs l
        on.found (eq-eqb l.number l.number refl) in
        let most = whole.sound.consistent.terminations.one_number l.number in
        let once : count_by (λ (t : Record). eqb t.number l.number) rs ≡ 1 = omega (arith, some, most) in
        sum_of-agree own_part (λ (t : Record). cond (eqb t.number l.number) z (pos 0)) rs
        (λ j d lt. let t = get_or rs j d in own_at t (whole.sound.by_number j d lt) (eqb t.number l.number) refl)
        ∙ one_passes (λ (t : Record). eqb t.number l.number) z rs once where
          own_at : (t : Record) → record_at k.rooms t.number ≡ Some t → (b : Bool) → eqb t.number l.number ≡ b →
              cond (b && talks l.mode) (sample_of t) (pos 0) ≡ cond b (cond (talks l.mode) (sample_of l) (pos 0)) (pos 0)
          own_at t found true e =
              rw (one_record k.rooms t.number l.number t l found on.found (eqb-true t.number l.number e)) refl
          own_at t found false e = refl

    out_sum : (b : Bool) → sum_of (sample_in k.sums.frames i) (left_out_by (cond b (Some l.slot) None) minus) ≡
        cond b (sample_at k.sums.frames l.slot i) (pos 0) +ℤ sum_of (sample_in k.sums.frames i) minus
    out_sum true = sum_of-cons (sample_in k.sums.frames i) l.slot minus
    out_sum false = omega (arith, ints)

    silenced_sum : sum_of (sample_in k.sums.frames i) minus ≡ sum_of silenced_part k.rooms.terminations
    silenced_sum = sum_of-map (sample_in k.sums.frames i) row_on (seats_of mask)
        ∙ sum_on_seats k.rooms inside.seating l p mask whole.sound whole.seats on.place held
        (λ slot. sample_at k.sums.frames slot i)

    total_splits : total_of k.sums p.room i ≡
        sum_of (sample_in k.sums.frames i) (left_out_by base minus) +ℤ heard_now k l i
    total_splits =
        let rs = k.rooms.terminations in
        let parted = sum_of-agree total_part (λ (t : Record). (own_part t +ℤ silenced_part t) +ℤ part_now k l i t) rs
        (λ j d lt. split (get_or rs j d) (whole.sound.by_number j d lt)) in
        let first = sum_of-plus (λ (t : Record). (own_part t +ℤ silenced_part t) +ℤ part_now k l i t)
        (λ (t : Record). own_part t +ℤ silenced_part t) (part_now k l i) rs (λ t. refl) in
        let second = sum_of-plus (λ (t : Record). own_part t +ℤ silenced_part t) own_part silenced_part rs (λ t. refl)
        in
        total_by_terminations k.rooms k.sums p.room i whole.sound whole.joined whole.row_count ∙ parted ∙ first
        ∙ ap (λ (z : ℤ). z +ℤ heard_now k l i) (second ∙ ap (λ (z : ℤ). z +ℤ sum_of silenced_part rs) own_sum ∙
        ap (λ (z : ℤ). cond (talks l.mode) (sample_at k.sums.frames l.slot i) (pos 0) +ℤ z)
        (sym silenced_sum) ∙ sym (out_sum (talks l.mode)))

  same_rest : (a b c d : ℤ) → a ≡ b +ℤ c → a ≡ b +ℤ d → c ≡ d
  same_rest a b c d e f = omega (arith, ints, e, f)

  -- A mix without the rows that are left out is what the listener hears, saturated.
  pub mix_is : IsLeftAndHeard k.sums p.room (left_out_by base minus)
      → mix_of k.sums p.room (left_out_by base minus) ≡
      map (λ i. nearest_sample (heard_now k l i)) (range_with_len 0 160)
  unfolding mix_of
  mix_is law = map_agree (λ i. nearest_sample (heard_of k.sums p.room (left_out_by base minus) i))
      (λ i. nearest_sample (heard_now k l i)) (range_with_len 0 160) (λ i.
      ap (λ (z : ℤ). nearest_sample z) (same_rest (total_of k.sums p.room i)
      (sum_of (sample_in k.sums.frames i) (left_out_by base minus))
      (heard_of k.sums p.room (left_out_by base minus) i) (heard_now k l i) (law i) (total_splits i)))
