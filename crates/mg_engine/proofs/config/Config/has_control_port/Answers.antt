use Rattle.mg_rooms.specs.Limits.{slot_at}
use Rattle.mg_engine.proofs.Common.{◌≡◌, ℕ, ◌<◌, ◌∙◌, Bool, true, false, not, Option, Some, None, refl, sym, arith, is_some, IsTrue, ◌↔◌, Config, HasControlPort, limits_of}
use Rattle.mg_engine.proofs.config.Config.has_control_port.Goals as goal

-- The control port is valid if and only if it is not 0 and no slot has it.
decides : (c : Config) (o : Option ℕ) (free : Bool) → o ≡ slot_at (limits_of c) c.control_port → is_some o ≡ not free →
    0 < c.control_port → IsTrue free ↔ HasControlPort c
decides c None true at is some = (λ _. record { some = some; apart = sym at }, λ h. refl)
decides c None false at is some = absurd (cc)
decides c (Some slot) true at is some = absurd (cc)
decides c (Some slot) false at is some = (λ h. absurd (cc), λ h. let none = at ∙ h.apart in absurd (cc))

pub returns-then-self-ne0 : goal.returns-then-self-ne0
returns-then-self-ne0 c = record {
  value = decides c.args.self.now c.slot_at.result c.is_none.result (rw c.limits.ensures.value at c.slot_at.ensures.value)
      c.is_none.ensures (omega (arith, c.if-self-ne0.true));
}
