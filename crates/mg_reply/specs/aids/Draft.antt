-- A reply that is being written after existing text, up to a limit.
use Rattle.std.specs.Prelude.{◌≡◌, ℕ, ◌+◌, ◌-◌, ◌≤◌, Bool, true, false, nat_le, List, ◌++◌, length}
use Rattle.std.specs.Prelude.{Option, Some, None, if◌then◌else◌}
use Rattle.mg_words.specs.Limits.{reply_limit}
use Rattle.mg_bytes.specs.Bytes.{Written, appended}

-- The text before the reply, the room after that text, and the reply so far, or `None` if the reply is too long.
pub record Drafted : Type 0 where
  pub front : List ℕ
  pub room : ℕ
  pub text : Option (List ℕ)

abbrev pub text_unless : Bool → List ℕ → Option (List ℕ)
text_unless true text = None
text_unless false text = Some text

-- The text, unless it is too long for a reply.
abbrev pub limited : List ℕ → Option (List ℕ)
limited text = if nat_le (length text) reply_limit then Some text else None

-- The reply with a part appended, or `None` if the reply is too long.
abbrev pub grown : Option (List ℕ) → List ℕ → Option (List ℕ)
grown None part = None
grown (Some text) part = limited (text ++ part)

unfoldable pub drafted : Drafted → List ℕ → Drafted
drafted d part = record { front = d.front; room = d.room; text = grown d.text part }

-- The buffer after a draft is closed, and whether the reply was too long.
abbrev pub closed_text : List ℕ → ℕ → Option (List ℕ) → Written → Bool → Type 0
closed_text front room (Some text) new is_full =
    (is_full ≡ false) × (new ≡ appended (record { text = front; room = room }) text)
closed_text front room None new is_full =
    (is_full ≡ true) × (new ≡ record { text = front; room = room })

abbrev pub closed : Drafted → Written → Bool → Type 0
closed d new is_full = closed_text d.front d.room d.text new is_full

-- The invariant of a draft: the index where the reply starts, and how many more bytes the reply may have.
pub record IsDraft (bytes : Written) (start left : ℕ) (is_full : Bool) : Type 0 where
  pub start_within : start ≤ length bytes.text
  pub room_left : left ≤ bytes.room
  pub used : is_full ≡ false → left + (length bytes.text - start) ≡ reply_limit
