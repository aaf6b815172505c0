use Rattle.std.proofs.Common.{◌≢◌, ◌*◌, ◌/◌}
use Rattle.std.proofs.lemmas.Bool.Decides.{nat_tests}
use Rattle.mg_rooms.proofs.Common.{◌≡◌, ℕ, ◌+◌, ◌<◌, ◌≤◌, zero, suc, eqb, find, None, Some, arith, refl, sym, ◌∙◌, range_with_len}
use Rattle.mg_rooms.proofs.limits.Limits.slot_at.Goals as goal
use Rattle.mg_rooms.proofs.limits.Limits.slot_at.Goals.{else-slot-self-via-then-slot-self+else-slot_port-port, else-slot-self-via-else-slot-self}

found : (base port slot a n : ℕ) → base + 2 * slot ≡ port → a ≤ slot → slot < a + n →
    find (λ s. eqb (base + 2 * s) port) (range_with_len a n) ≡ Some slot
found base port slot a zero is from to = absurd (omega arith)
found base port slot a (suc n) is from to = grind (arith, nat_tests, found base port slot (a + 1) n is)

none : (base port a n : ℕ) → ((s : ℕ) → s < a + n → base + 2 * s ≢ port) →
    find (λ s. eqb (base + 2 * s) port) (range_with_len a n) ≡ None
none base port a zero not = refl
none base port a (suc n) not =
    grind (arith, nat_tests, not a, none base port (a + 1) n (λ s to. not s (omega arith)))

pub returns-then-slot_port-port : goal.returns-then-slot_port-port
returns-then-slot_port-port c = record {
  value = sym (found c.args.self.now.base_port c.args.port (c.saturating_sub-slot.result / 2) 0 c.args.self.now.slots
      (omega arith) (omega arith) (omega arith));
}

pub returns-else-slot-self : goal.returns-else-slot-self
returns-else-slot-self c =
    let l = c.args.self.now in
    record {
      value = sym (none l.base_port c.args.port 0 l.slots (λ s to is. elim c.else-slot-self.branch [
        | else-slot-self-via-then-slot-self+else-slot_port-port w ↦
            w.if-slot_port-port.false (w.slot_port.ensures.value ∙ omega arith)
        | else-slot-self-via-else-slot-self w ↦ omega (arith, w.if-slot-self.false)
      ]));
    }
