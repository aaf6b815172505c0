-- Datagrams at two different ports have the same effect in either order. The last lemmas are about commands.
use Rattle.mg_engine.proofs.Common.{ne_eqb, ◌≡◌, ◌≢◌, ℕ, eqb, Bool, true, false, ℤ, List, [], ◌∷◌, Option, Some, None, Result, Ok, Err, refl, sym, ap, ◌∙◌, arith, eqb-true, eq-eqb, same_Some, ErrorNumber, Header, Reading, Record, Target, change, slot_port, Taken, TopologyTriple, Arrived, Takes, arrived, at_port, frame_placed, taken_at, frame_placed_at, taken_by, Gateway, TerminationMedia, media_of, done_with, find, eqb-false, Registry, find-change_other, find-found, nat_tests, IsConsistent}
use Rattle.mg_engine.specs.aids.Order.{ArrivalOrderIsIrrelevant}
use Rattle.mg_engine.specs.Outcome.{apply_triples}
use Rattle.mg_rooms.proofs.OrderLemmas.{found_key}

-- ## Terminations with different ports

-- An item that is found passes the test.
pub found_passes : {A : Type 0} (q : A → Bool) (xs : List A) (y : A) → find q xs ≡ Some y → q y ≡ true
found_passes q xs y found = found_key q xs y found

abbrev has_port : Registry → ℕ → Record → Bool
has_port w port r = eqb (slot_port w.limits r.slot) port

-- Terminations with different ports have different numbers.
apart_at : (w : Registry) (port other : ℕ) (r d : Record) → IsConsistent w → port ≢ other →
    at_port w port ≡ Some r → at_port w other ≡ Some d → eqb r.number d.number ≡ false
apart_at w port other r d h ports here there = ne_eqb r.number d.number (λ same.
    let by = λ (x : Record). eqb x.number d.number in
    let one_only = h.terminations.one_number d.number in
    let left = find-found by (has_port w port) w.terminations r here (eq-eqb r.number d.number same) one_only in
    let right = find-found by (has_port w other) w.terminations d there (eq-eqb d.number d.number refl) one_only in
    let is : r ≡ d = same_Some r d (sym left ∙ right) in
    let at = eqb-true (slot_port w.limits r.slot) port (found_passes (has_port w port) w.terminations r here) in
    let too = eqb-true (slot_port w.limits d.slot) other (found_passes (has_port w other) w.terminations d there) in
    ports (sym at ∙ ap (λ (x : Record). slot_port w.limits x.slot) is ∙ too))

-- ## Two changes of media

abbrev play : Header × List ℤ → TerminationMedia → TerminationMedia
play p s = frame_placed p.0 p.1 s

abbrev played_at : ℕ → Header × List ℤ → List TerminationMedia → List TerminationMedia
played_at n p list = change (λ s. s.number) n (λ s. Some (play p s)) list

two_changes : (n m : ℕ) (p q : Header × List ℤ) (list : List TerminationMedia) → eqb n m ≡ false →
    played_at m q (played_at n p list) ≡ played_at n p (played_at m q list)
two_changes n m p q [] apart = refl
two_changes n m p q (x ∷ xs) apart = grind (arith, nat_tests, two_changes n m p q xs apart)

-- Changing the media of one termination does not change the media of another.
pub other_media : (w : Gateway) (n m : ℕ) (p : Header × List ℤ) → eqb n m ≡ false →
    media_of (record w { media = played_at n p w.media }) m ≡ media_of w m
other_media w n m p apart =
    find-change_other (λ s. s.number) n m (λ s. Some (play p s)) w.media (λ x same. refl) apart

turned_numbers : (n m : ℕ) → eqb n m ≡ false → eqb m n ≡ false
turned_numbers n m apart = ne_eqb m n (λ same. eqb-false n m apart (sym same))

-- ## Two packets

-- Both orders end in the same gateway, and each datagram has the same outcome in both.
abbrev AreSwapped : (first second : Gateway × Taken) (after : Gateway → Gateway × Taken)
    (before : Gateway → Gateway × Taken) → Type 0
AreSwapped first second after before = (last : Gateway) × (after first.0 ≡ (last, second.1)) ×
    (before second.0 ≡ (last, first.1))

abbrev place : ℕ → Header × List ℤ → Gateway → Gateway × Taken
place n p w = frame_placed_at w n p (media_of w n)

swap_placed : (w : Gateway) (n m : ℕ) (p q : Header × List ℤ) (o k : Option TerminationMedia) → eqb n m ≡ false →
    media_of w n ≡ o → media_of w m ≡ k →
    AreSwapped (frame_placed_at w n p o) (frame_placed_at w m q k) (place m q) (place n p)
swap_placed w n m p q None None apart here there =
    (w, ap (frame_placed_at w m q) there, ap (frame_placed_at w n p) here)
swap_placed w n m p q None (Some t) apart here there =
    let after = (frame_placed_at w m q (Some t)).0 in (
      after,
      ap (frame_placed_at w m q) there,
      ap (frame_placed_at after n p) (other_media w m n q (turned_numbers n m apart) ∙ here),
    )
swap_placed w n m p q (Some s) None apart here there =
    let after = (frame_placed_at w n p (Some s)).0 in
    (after, ap (frame_placed_at after m q) (other_media w n m p apart ∙ there), ap (frame_placed_at w n p) here)
swap_placed w n m p q (Some s) (Some t) apart here there =
    let first = (frame_placed_at w n p (Some s)).0 in
    let second = (frame_placed_at w m q (Some t)).0 in
    let result = (frame_placed_at w n p (Some s)).1 in (
      (frame_placed_at first m q (Some t)).0,
      ap (frame_placed_at first m q) (other_media w n m p apart ∙ there),
      ap (frame_placed_at second n p) (other_media w m n q (turned_numbers n m apart) ∙ here)
          ∙ ap (λ (l : List TerminationMedia). (record w { media = l }, result))
          (sym (two_changes n m p q w.media apart)),
    )

abbrev take : ℕ → Arrived → Gateway → Gateway × Taken
take n x w = taken_at w n x

swap_taken : (w : Gateway) (n m : ℕ) (x y : Arrived) → eqb n m ≡ false →
    AreSwapped (taken_at w n x) (taken_at w m y) (take m y) (take n x)
swap_taken w n m (Ok p) (Ok q) apart = swap_placed w n m p q (media_of w n) (media_of w m) apart refl refl
swap_taken w n m (Ok p) (Err cause) apart = ((taken_at w n (Ok p)).0, refl, refl)
swap_taken w n m (Err cause) y apart = ((taken_at w m y).0, refl, refl)

abbrev take_by : Option Record → List ℕ → Reading → Gateway → Gateway × Taken
take_by o source reading w = taken_by w o source reading

swap_by : (w : Gateway) (o k : Option Record) (s t : List ℕ) (x y : Reading) →
    ((r d : Record) → o ≡ Some r → k ≡ Some d → eqb r.number d.number ≡ false) →
    AreSwapped (taken_by w o s x) (taken_by w k t y) (take_by k t y) (take_by o s x)
swap_by w None k s t x y apart = ((taken_by w k t y).0, refl, refl)
swap_by w (Some r) None s t x y apart = ((taken_by w (Some r) s x).0, refl, refl)
swap_by w (Some r) (Some d) s t x y apart =
    swap_taken w r.number d.number (arrived r s x) (arrived d t y) (apart r d refl refl)

-- ## A packet changes only media

arrived_rooms : (w : Gateway) (n : ℕ) (x : Arrived) → (taken_at w n x).0.rooms ≡ w.rooms
arrived_rooms w n (Ok p) = grind (arith, nat_tests)
arrived_rooms w n (Err cause) = refl

taken_rooms : (w : Gateway) (o : Option Record) (source : List ℕ) (reading : Reading) →
    (taken_by w o source reading).0.rooms ≡ w.rooms
taken_rooms w None source reading = refl
taken_rooms w (Some r) source reading = arrived_rooms w r.number (arrived r source reading)

pub takes_rooms : (w next : Gateway) (port : ℕ) (source bytes : List ℕ) (result : Taken) →
    Takes w port source bytes next result → next.rooms ≡ w.rooms
takes_rooms w next port source bytes result (reading, is, represents) =
    ap (λ (p : Gateway × Taken). p.0.rooms) (sym represents) ∙ taken_rooms w (at_port w.rooms port) source reading

pub order_of_two : ArrivalOrderIsIrrelevant
order_of_two w between last port other from source bytes list a b h ports (x, is, first) (y, too, second) =
    let o = at_port w.rooms port in
    let k = at_port w.rooms other in
    let (end, after, before) = swap_by w o k from source x y (λ r d. apart_at w.rooms port other r d h ports) in
    let turned = (taken_by w k source y).0 in
    let at_first = ap (λ (p : Gateway × Taken). p.0) first in
    let same_rooms = ap (λ (g : Gateway). g.rooms) (sym at_first) ∙ taken_rooms w o from x in
    let represents = ap (λ (g : Gateway). taken_by g k source y) at_first ∙
    ap (λ (z : Registry). taken_by between (at_port z other) source y) (sym same_rooms) ∙ second in
    let both : (end, (taken_by w k source y).1) ≡ (last, b) = sym after ∙ represents in
    let is_last = ap (λ (p : Gateway × Taken). p.0) both in
    let is_b = ap (λ (p : Gateway × Taken). p.1) both in
    let is_a = ap (λ (p : Gateway × Taken). p.1) first in (
      turned,
      (y, too, ap (λ (t : Taken). (turned, t)) is_b),
      (
        x,
        is,
        ap (λ (z : Registry). taken_by turned (at_port z port) from x) (taken_rooms w k source y) ∙ before
            ∙ ap (λ (g : Gateway). (g, (taken_by w o from x).1)) is_last ∙ ap (λ (t : Taken). (last, t)) is_a,
      ),
    )

-- ## An edit, and the terminations and contexts after it

-- If a command succeeded on a gateway, it succeeded on the gateway's terminations and contexts.
pub done_is : (f : Registry → Record → Gateway) (o : Result (Registry × Record) ErrorNumber)
    (next : Gateway) (r : Record) → done_with f o ≡ Ok (next, r) → (z : Registry) × (o ≡ Ok (z, r)) ×
    (next ≡ f z r)
done_is f (Ok p) next r e = grind (arith, nat_tests, p.1, p.0)
done_is f (Err x) next r e = absurd (cc e)

-- If a property holds for the gateway of each successful outcome, it holds for the gateway after a successful command.
pub done_gives : (P : Gateway → Type 0) (f : Registry → Record → Gateway)
    (o : Result (Registry × Record) ErrorNumber) (next : Gateway) (r : Record) → done_with f o ≡ Ok (next, r) →
    ((z : Registry) → o ≡ Ok (z, r) → P (f z r)) → P next
done_gives P f o next r e gives = let (z, is, represents) = done_is f o next r e in rw represents (gives z is)

pub triples_rooms : (w next : Gateway) (target : Target) (xs : List TopologyTriple) (c : ℕ) →
    apply_triples w target xs ≡ Ok (next, c) → next.rooms ≡ w.rooms
unfolding apply_triples
triples_rooms w next target xs c e = grind (arith, nat_tests)
