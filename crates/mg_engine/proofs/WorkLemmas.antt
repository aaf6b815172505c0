-- Bounds on the increase of a counter over several steps.
use Rattle.mg_engine.proofs.Common.{◌≡◌, ℕ, ◌+◌, ◌≤◌, arith, RisesAtMost}

pub rises_twice : (a b most x y z : ℕ) → a + b ≤ most → RisesAtMost a x y → RisesAtMost b y z → RisesAtMost most x z
rises_twice a b most x y z le h k = (h.0 + k.0, omega (arith, le, h.1, k.1), omega (arith, h.2, k.2))

pub stays : (most x y : ℕ) → y ≡ x → RisesAtMost most x y
stays most x y same = (0, omega arith, omega (arith, same))

pub rises_less : (a most x y : ℕ) → a ≤ most → RisesAtMost a x y → RisesAtMost most x y
rises_less a most x y le h = (h.0, omega (arith, le, h.1), h.2)
