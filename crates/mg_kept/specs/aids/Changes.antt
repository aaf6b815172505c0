-- The effect of one change on kept replies, as steps for the theorems about a reply over time.
use Rattle.std.specs.Prelude.{◌≡◌, ℕ, ◌+◌, ◌<◌, ◌≤◌, ◌&&◌, nat_le, true, false, List, []}
use Rattle.std.specs.Prelude.{length, Some, None}
use Rattle.std.specs.Str.{str_eq_ignore_ascii_case}
use Rattle.mg_words.specs.Limits.{kept_limit}
use Rattle.mg_kept.specs.KeptReplies.{KeptReply, AreKept, is_from, is_reply_to, kept_text}
use Rattle.mg_kept.specs.KeptReplies.{newer_than, with_reply, without_range}

-- A reply is kept while fewer than 32 replies are newer. Keeping another reply adds one newer reply.
abbrev pub FewNewerStay : Type 0
FewNewerStay =
    (replies : List KeptReply) (reply : KeptReply) (sender text : List ℕ) (number : ℕ)
    → kept_text replies sender number ≡ Some text
    → length (newer_than replies sender number) + 1 < kept_limit
    → (kept_text (with_reply reply replies) sender number ≡ Some text)
    × (length (newer_than (with_reply reply replies) sender number)
    ≡ length (newer_than replies sender number) + 1)

-- If 31 replies are newer than a reply, it is dropped when a reply to another request is kept.
abbrev pub NewerRepliesEvict : Type 0
NewerRepliesEvict =
    (replies : List KeptReply) (reply : KeptReply) (sender : List ℕ) (number : ℕ)
    → AreKept replies → length (newer_than replies sender number) + 1 ≡ kept_limit
    → is_reply_to sender number reply ≡ false
    → kept_text (with_reply reply replies) sender number ≡ None

-- No reply is newer than the reply that was kept last.
abbrev pub LastIsNewest : Type 0
LastIsNewest =
    (replies : List KeptReply) (reply : KeptReply) (sender : List ℕ)
    → kept_text replies reply.sender reply.number ≡ None → is_from sender reply ≡ true
    → newer_than (with_reply reply replies) sender reply.number ≡ []

-- If an acknowledgement does not name a reply, the reply is still kept, and the number of newer replies does not
-- increase.
abbrev pub UnnamedStay : Type 0
UnnamedStay =
    (replies : List KeptReply) (sender from : List ℕ) (number first last : ℕ)
    → (nat_le first number && nat_le number last && str_eq_ignore_ascii_case sender from) ≡ false
    → (kept_text (without_range from first last replies) sender number
    ≡ kept_text replies sender number)
    × (length (newer_than (without_range from first last replies) sender number)
    ≤ length (newer_than replies sender number))

-- A dropped reply is kept again only if its own request is run again.
abbrev pub DroppedStayDropped : Type 0
DroppedStayDropped =
    (replies : List KeptReply) (sender : List ℕ) (number : ℕ)
    → kept_text replies sender number ≡ None
    → ((reply : KeptReply) → is_reply_to sender number reply ≡ false
    → kept_text (with_reply reply replies) sender number ≡ None)
    × ((from : List ℕ) (first last : ℕ)
    → kept_text (without_range from first last replies) sender number ≡ None)

-- Keeping a reply and acknowledging replies preserve the invariant.
abbrev pub KeptStayDistinct : Type 0
KeptStayDistinct =
    (replies : List KeptReply) → AreKept replies
    → ((reply : KeptReply) → kept_text replies reply.sender reply.number ≡ None
    → AreKept (with_reply reply replies))
    × ((sender : List ℕ) (first last : ℕ) → AreKept (without_range sender first last replies))
