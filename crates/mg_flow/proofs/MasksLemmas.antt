-- Lists of masks that are written one by one.
use Rattle.std.proofs.Common.{◌≡◌, ℕ, ◌+◌, ◌<◌, Bool, List, length, slice_index, slice_set, get_or-set_same, get_or-set_other, inl, inr, arith}
use Rattle.std.proofs.lemmas.Bool.{cases_eq}
use Rattle.mg_topology.specs.Mask.{has_seat}

-- If the masks below index i are correct, they are also correct up to index i after the mask at i is written.
pub written : (masks : List ℕ) (i mask : ℕ) (tells : ℕ → ℕ → Bool) → i < length masks
    → ((s k : ℕ) → k < i → has_seat (slice_index masks k) s ≡ tells s k)
    → ((s : ℕ) → has_seat mask s ≡ tells s i)
    → (s k : ℕ) → k < i + 1 → has_seat (slice_index (slice_set masks i mask) k) s ≡ tells s k
written masks i mask tells within below own s k h =
    elim (cases_eq k i) [
      | inl e ↦ rw (e, get_or-set_same masks i mask 0 within) (own s)
      | inr ne ↦ rw (get_or-set_other masks i k mask 0 ne) (below s k (omega (arith, h, ne)))
    ]
