-- The replies that are kept to answer retransmitted requests without running them twice (RFC 3525,
-- section 8.2 and annex D.1). They are listed oldest first.
use Rattle.std.specs.Prelude.{◌≡◌, ℕ, ◌-◌, ◌≤◌, Bool, false, not, ◌&&◌, ◌==◌, nat_le, List, [], ◌∷◌}
use Rattle.std.specs.Prelude.{◌++◌, length, drop, filter, find, Option, option_map, if◌then◌else◌}
use Rattle.std.specs.List.{AllPairs}
use Rattle.std.specs.Str.{str_eq_ignore_ascii_case}
use Rattle.mg_words.specs.Limits.{kept_limit}

-- A kept reply: the sender's name as in the request, the request's number, and the text.
pub record KeptReply : Type 0 where
  pub sender : List ℕ
  pub number : ℕ
  pub text : List ℕ

-- Whether a reply went to this sender, ignoring case.
abbrev pub is_from : List ℕ → KeptReply → Bool
is_from sender reply = str_eq_ignore_ascii_case reply.sender sender

-- Whether a reply answers the sender's request with this number.
abbrev pub is_reply_to : List ℕ → ℕ → KeptReply → Bool
is_reply_to sender number reply = (reply.number == number) && is_from sender reply

-- Whether a reply went to this sender and has a number from first to last.
abbrev pub is_in_range : List ℕ → ℕ → ℕ → KeptReply → Bool
is_in_range sender first last reply =
    nat_le first reply.number && nat_le reply.number last && is_from sender reply

-- The text of the kept reply to a request, or `None` if no reply to the request is kept.
abbrev pub kept_text : List KeptReply → List ℕ → ℕ → Option (List ℕ)
kept_text replies sender number =
    option_map (λ reply. reply.text) (find (is_reply_to sender number) replies)

-- The replies that were kept after the reply that answers the request, or none if no kept reply answers it.
abbrev pub newer_than : List KeptReply → List ℕ → ℕ → List KeptReply
newer_than [] sender number = []
newer_than (reply ∷ replies) sender number =
    if is_reply_to sender number reply then replies else newer_than replies sender number

-- The newest `count` replies.
abbrev pub newest : ℕ → List KeptReply → List KeptReply
newest count replies = drop (length replies - count) replies

-- The replies after one more reply is kept, as the newest. If the limit is reached, the oldest reply is dropped.
abbrev pub with_reply : KeptReply → List KeptReply → List KeptReply
with_reply reply replies = newest kept_limit (replies ++ reply ∷ [])

-- The replies that remain after a sender acknowledged the numbers from `first` to `last`.
abbrev pub without_range : List ℕ → ℕ → ℕ → List KeptReply → List KeptReply
without_range sender first last replies =
    filter (λ reply. not (is_in_range sender first last reply)) replies

-- No two replies answer the same request.
abbrev pub AreDistinct : List KeptReply → Type 0
AreDistinct replies =
    AllPairs (λ older newer. is_reply_to newer.sender newer.number older ≡ false) replies

-- The invariant of the kept replies.
pub record AreKept (replies : List KeptReply) : Type 0 where
  pub at_most : length replies ≤ kept_limit
  pub distinct : AreDistinct replies
