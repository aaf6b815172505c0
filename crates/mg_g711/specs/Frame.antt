-- A frame of samples, as it appears in contracts: a list.
use Rattle.std.specs.Prelude.{◌≡◌, ◌/◌, ℤ, pos, int_lt, unsigned_abs, List, length, All, FitsSigned}
use Rattle.std.specs.Int.{w16}
use Rattle.mg_g711.specs.Law.{signed}

-- The list is a frame: 160 samples from -32768 to 32767, which are 20 ms at 8000 Hz (RFC 3551, sections 4.2 and 6).
pub record IsFrame (samples : List ℤ) : Type 0 where
  pub whole : length samples ≡ 160
  pub in_range : All (FitsSigned w16) samples

-- Half of a sample, rounded toward zero.
abbrev pub halved : ℤ → ℤ
halved sample = signed (int_lt sample (pos 0)) (unsigned_abs sample / 2)
