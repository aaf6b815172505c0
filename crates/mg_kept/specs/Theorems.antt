-- Properties of kept replies.
use Rattle.std.specs.Prelude.{◌≡◌, ℕ, ◌<◌, ◌≤◌, ◌⊎◌, true, false, List, ◌∷◌}
use Rattle.std.specs.Prelude.{length, Some, None}
use Rattle.std.specs.Str.{str_eq_ignore_ascii_case}
use Rattle.mg_words.specs.Limits.{kept_limit}
use Rattle.mg_kept.specs.KeptReplies.{KeptReply, AreKept, is_from, is_reply_to, kept_text}
use Rattle.mg_kept.specs.KeptReplies.{with_reply, without_range}

-- A reply that was just kept is found under its sender's name, ignoring case, if its request had no kept reply before.
abbrev pub KeptIsFound : Type 0
KeptIsFound =
    (replies : List KeptReply) (reply : KeptReply) (sender : List ℕ)
    → kept_text replies reply.sender reply.number ≡ None → is_from sender reply ≡ true
    → kept_text (with_reply reply replies) sender reply.number ≡ Some reply.text

-- The case of a sender's name does not matter.
abbrev pub CaseIsIgnored : Type 0
CaseIsIgnored =
    (replies : List KeptReply) (sender same : List ℕ) (number : ℕ)
    → str_eq_ignore_ascii_case sender same ≡ true
    → kept_text replies same number ≡ kept_text replies sender number

-- While the limit is not reached, keeping a reply changes nothing for other requests.
abbrev pub OthersStay : Type 0
OthersStay =
    (replies : List KeptReply) (reply : KeptReply) (sender : List ℕ) (number : ℕ)
    → length replies < kept_limit → is_reply_to sender number reply ≡ false
    → kept_text (with_reply reply replies) sender number ≡ kept_text replies sender number

-- At the limit, keeping a reply changes nothing for other requests, except that the oldest reply is
-- dropped.
abbrev pub OnlyOldestIsDropped : Type 0
OnlyOldestIsDropped =
    (oldest : KeptReply) (rest : List KeptReply) (reply : KeptReply) (sender : List ℕ) (number : ℕ)
    → length (oldest ∷ rest) ≡ kept_limit → is_reply_to sender number oldest ≡ false
    → is_reply_to sender number reply ≡ false
    → kept_text (with_reply reply (oldest ∷ rest)) sender number
    ≡ kept_text (oldest ∷ rest) sender number

-- A reply that was dropped for a newer reply is not found.
abbrev pub OldestIsDropped : Type 0
OldestIsDropped =
    (oldest : KeptReply) (rest : List KeptReply) (reply : KeptReply) (sender : List ℕ)
    → AreKept (oldest ∷ rest) → length (oldest ∷ rest) ≡ kept_limit
    → is_from sender oldest ≡ true → is_reply_to sender oldest.number reply ≡ false
    → kept_text (with_reply reply (oldest ∷ rest)) sender oldest.number ≡ None

-- A reply that was acknowledged is not found.
abbrev pub AcknowledgedIsDropped : Type 0
AcknowledgedIsDropped =
    (replies : List KeptReply) (sender same : List ℕ) (first last number : ℕ)
    → str_eq_ignore_ascii_case same sender ≡ true → first ≤ number → number ≤ last
    → kept_text (without_range sender first last replies) same number ≡ None

-- An acknowledgement changes nothing for other senders or for numbers outside its range.
abbrev pub OtherSendersStay : Type 0
OtherSendersStay =
    (replies : List KeptReply) (sender other : List ℕ) (first last number : ℕ)
    → str_eq_ignore_ascii_case other sender ≡ false
    → kept_text (without_range sender first last replies) other number
    ≡ kept_text replies other number

abbrev pub OtherNumbersStay : Type 0
OtherNumbersStay =
    (replies : List KeptReply) (sender other : List ℕ) (first last number : ℕ)
    → ((number < first) ⊎ (last < number))
    → kept_text (without_range sender first last replies) other number
    ≡ kept_text replies other number
