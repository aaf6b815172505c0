-- The text of a renewal, which was extended.
use Rattle.std.proofs.Common.{◌≡◌, ℕ, List, ◌++◌, length, take}
use Rattle.std.proofs.Math.Seq.{take-append_seam}
use Rattle.mg_dates.specs.aids.Texts.{Extends}

-- A text that was extended still begins with what it was.
pub front_of : (old new : List ℕ) (n : ℕ) (shown : List ℕ) → Extends old new → n ≡ length old → shown ≡ new
    → take n shown ≡ old
front_of old new n shown (more, is) len same = rw (len, same, is) (take-append_seam old more)
