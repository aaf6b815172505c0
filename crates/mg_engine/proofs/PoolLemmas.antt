-- The termination that has a port.
use Rattle.mg_rooms.specs.Limits.{slot_at}
use Rattle.mg_engine.proofs.OrderLemmas.{found_passes}
use Rattle.mg_engine.proofs.Common.{◌≡◌, ◌≢◌, ℕ, ◌+◌, ◌*◌, ◌<◌, ◌≤◌, zero, suc, eqb, eqb-true, List, [], ◌∷◌, Some, None, Bool, refl, arith, Limits, Record, slot_port, range_with_len, IsTermination, IsSound, holder_of, at_port, find, Registry, nat_tests, count-zero, find-none, ne_eqb}

find_same : (f g : Record → Bool) (rs : List Record) → ((r : Record) → f r ≡ g r) → find f rs ≡ find g rs
find_same f g [] h = refl
find_same f g (r ∷ rs) h = grind (arith, nat_tests, h r, find_same f g rs h)

no_slot : (base port a n slot : ℕ) → find (λ s. eqb (base + 2 * s) port) (range_with_len a n) ≡ None → a ≤ slot →
    slot < a + n → base + 2 * slot ≢ port
no_slot base port a zero slot none from to = absurd (omega arith)
no_slot base port a (suc n) slot none from to = grind (arith, nat_tests, none, no_slot base port (a + 1) n slot)

-- If no slot is found for a port, no slot has this port.
pub has_no_slot : (l : Limits) (port slot : ℕ) → slot_at l port ≡ None → slot < l.slots → slot_port l slot ≢ port
has_no_slot l port slot none to = no_slot l.base_port port 0 l.slots slot none (omega arith) (omega arith)

-- The termination in the slot of a port is the termination with this port.
pub at_slot_of : (w : Registry) (port slot : ℕ) → slot_at w.limits port ≡ Some slot → holder_of w slot ≡ at_port w port
at_slot_of w port slot found =
    let is = eqb-true (slot_port w.limits slot) port
    (found_passes (λ s. eqb (slot_port w.limits s) port) (range_with_len 0 w.limits.slots) slot found) in
    find_same (λ r. eqb r.slot slot) (λ r. eqb (slot_port w.limits r.slot) port) w.terminations
    (λ r. grind (arith, nat_tests, is))

pub at_no_slot : (w : Registry) (port : ℕ) → IsSound w → slot_at w.limits port ≡ None → at_port w port ≡ None
at_no_slot w port sound none =
    let at = λ (r : Record). eqb (slot_port w.limits r.slot) port in
    find-none at w.terminations (count-zero (IsTermination w.limits w.next_termination) at w.terminations
    sound.consistent.terminations.each (λ r is. ne_eqb (slot_port w.limits r.slot) port (has_no_slot w.limits port r.slot none is.slot)))
