-- The places in which kept replies are stored.
use Rattle.std.specs.Prelude.{◌≡◌, ℕ, ◌≤◌, List, length, take}
use Rattle.mg_words.specs.Limits.{kept_limit}
use Rattle.mg_kept.specs.KeptReplies.{KeptReply, AreDistinct}

-- There is a place for each reply that may be kept; the first `len` places hold the kept replies.
pub record AreFilledUpTo (places : List KeptReply) (len : ℕ) : Type 0 where
  pub many : length places ≡ kept_limit
  pub within : len ≤ kept_limit
  pub distinct : AreDistinct (take len places)
