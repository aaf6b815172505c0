-- Retransmitted requests (RFC 3525, section 8.2 and annex D.1). A controller that receives no
-- answer sends its request again, and the request must not run twice.
use Rattle.std.specs.Prelude.{◌≡◌, ℕ, ◌+◌, ◌<◌, ◌≤◌, ◌==◌, nat_le, Bool, true, false, ◌&&◌}
use Rattle.std.specs.Prelude.{if◌then◌else◌, List, [], ◌∷◌, length, Some, None, is_none}
use Rattle.std.specs.List.{AllByRecursion, list_any}
use Rattle.std.specs.Str.{str_eq_ignore_ascii_case}
use Rattle.mg_words.specs.Limits.{kept_limit}
use Rattle.mg_scan.specs.Span.{text_of}
use Rattle.mg_kept.specs.KeptReplies.{AreKept, kept_text, newer_than}
use Rattle.mg_text.specs.declared.body.MessageItem.{MessageItem}
use Rattle.mg_text.specs.declared.body.MessageItem.TheVariants as items
use Rattle.mg_text.specs.declared.message.Message.{Message}
use Rattle.mg_text.specs.declared.request.Request.{Request}
use Rattle.mg_text.specs.Message.{IsMessage, items_of}
use Rattle.mg_commands.specs.Transaction.{replied}
use Rattle.mg_core.specs.declared.event.Event.{Event}
use Rattle.mg_core.specs.declared.event.Event.TheVariants.{Control}
use Rattle.mg_core.specs.Answer.{item_replied, request_replied, run_and_kept}
use Rattle.mg_core.specs.Step.{Sent, Step, Run}
use Rattle.mg_core.specs.World.{World, with_control}

-- While the reply to a request is kept, it answers the request, whatever the request contains, and nothing is executed.
abbrev pub KeptRepliesAreSent : Type 0
KeptRepliesAreSent =
    (source sender : List ℕ) (request : Request) (w : World) (text : List ℕ)
    → kept_text w.replies sender request.number ≡ Some text
    → request_replied source sender request w ≡ (text, w)

-- Suppose a request is run, and its retransmission is handled next. The retransmission gets the same answer, and
-- nothing is executed a second time. Its datagram may have another form, and the sender's name in it may be in another
-- case.
abbrev pub RetransmissionsAreAnsweredAlike : Type 0
RetransmissionsAreAnsweredAlike =
    (source other sender same : List ℕ) (request again : Request) (w : World)
    → kept_text w.replies sender request.number ≡ None
    → again.number ≡ request.number → str_eq_ignore_ascii_case sender same ≡ true
    → request_replied other same again (request_replied source sender request w).1
    ≡ request_replied source sender request w

-- A request without a kept reply is run, and its reply is kept.
abbrev pub OthersAreRun : Type 0
OthersAreRun =
    (source sender : List ℕ) (request : Request) (w : World)
    → kept_text w.replies sender request.number ≡ None
    → request_replied source sender request w
    ≡ run_and_kept sender request.number w (replied source request w.gateway)

-- ## Kept replies over time

-- Whether an item from a sender acknowledges the reply to this sender's request with this number.
abbrev pub acknowledges : List ℕ → ℕ → List ℕ → MessageItem → Bool
acknowledges sender number from (items.Request request) = false
acknowledges sender number from (items.Acknowledgement ranges) =
    list_any (λ x. nat_le x.first number && nat_le number x.last
    && str_eq_ignore_ascii_case sender from) ranges

-- Whether an item is this sender's request with this number.
abbrev pub is_request_for : List ℕ → ℕ → List ℕ → MessageItem → Bool
is_request_for sender number from (items.Request request) =
    (request.number == number) && str_eq_ignore_ascii_case sender from
is_request_for sender number from (items.Acknowledgement ranges) = false

-- The number of replies that an item adds to the kept ones: 1 if it is a request that is run, otherwise 0.
abbrev pub kept_for : List ℕ → MessageItem → World → ℕ
kept_for from (items.Request request) w =
    if is_none (kept_text w.replies from request.number) then 1 else 0
kept_for from (items.Acknowledgement ranges) w = 0

-- The number of replies that the items of a message add to the kept ones, if the items are handled in order.
abbrev pub kept_for_all : List ℕ → List ℕ → List MessageItem → World → ℕ
kept_for_all source from [] w = 0
kept_for_all source from (x ∷ xs) w =
    kept_for from x w + kept_for_all source from xs (item_replied source from [] x w).1

-- An event preserves a reply: it does not acknowledge the reply, and adds at most `n` other replies.
abbrev pub PreservesReply : List ℕ → ℕ → World → Event → ℕ → Type 0
PreservesReply sender number w (Control source bytes) n =
    (m : Message) → IsMessage bytes m
    → (list_any (acknowledges sender number (text_of bytes m.sender)) (items_of m.body) ≡ false)
    × (kept_for_all bytes (text_of bytes m.sender) (items_of m.body) (with_control w) ≤ n)
PreservesReply sender number w _ n = Unit {0}

-- Events preserve a reply one after another, and add at most `n` other replies in total.
abbrev pub AllPreserveReply : List ℕ → ℕ → World → List Event → ℕ → Type 0
AllPreserveReply sender number w [] n = Unit {0}
AllPreserveReply sender number w (event ∷ events) n =
    (first : ℕ) × (others : ℕ) × (first + others ≤ n) × PreservesReply sender number w event first
    × ((sent : List Sent) (next : World) → Step w event sent next
    → AllPreserveReply sender number next events others)

-- A request whose reply is kept gets the same answer, and is not run again. This lasts until an acknowledgement names
-- its reply or 32 other replies have been kept. The time that passes does not matter.
abbrev pub RepliesPersist : Type 0
RepliesPersist =
    (sender text : List ℕ) (number : ℕ) (w last : World) (events : List Event) (sent : List Sent)
    (n : ℕ) (source same : List ℕ) (again : Request)
    → kept_text w.replies sender number ≡ Some text
    → length (newer_than w.replies sender number) + n < kept_limit
    → AllPreserveReply sender number w events n → Run w events sent last
    → again.number ≡ number → str_eq_ignore_ascii_case sender same ≡ true
    → request_replied source same again last ≡ (text, last)

-- After a request is run, its reply is the newest.
abbrev pub NewReplyIsNewest : Type 0
NewReplyIsNewest =
    (source sender : List ℕ) (request : Request) (w : World)
    → kept_text w.replies sender request.number ≡ None
    → newer_than (request_replied source sender request w).1.replies sender request.number ≡ []

-- An acknowledgement that names a reply drops this reply.
abbrev pub AcknowledgedAreDropped : Type 0
AcknowledgedAreDropped =
    (source sender from mark : List ℕ) (number : ℕ) (item : MessageItem) (w : World)
    → acknowledges sender number from item ≡ true
    → kept_text (item_replied source from mark item w).1.replies sender number ≡ None

-- If 31 replies are newer than a reply, running one more request drops that reply.
abbrev pub EvictedAreDropped : Type 0
EvictedAreDropped =
    (source sender from : List ℕ) (number : ℕ) (request : Request) (w : World)
    → AreKept w.replies → length (newer_than w.replies sender number) + 1 ≡ kept_limit
    → kept_text w.replies from request.number ≡ None
    → is_request_for sender number from (items.Request request) ≡ false
    → kept_text (request_replied source from request w).1.replies sender number ≡ None

-- No message in the event contains the request.
abbrev pub IsNotRequested : List ℕ → ℕ → Event → Type 0
IsNotRequested sender number (Control source bytes) =
    (m : Message) → IsMessage bytes m
    → list_any (is_request_for sender number (text_of bytes m.sender)) (items_of m.body) ≡ false
IsNotRequested sender number _ = Unit {0}

-- After a reply was dropped, its request is run again the first time that it is retransmitted.
abbrev pub DroppedRequestsAreRerun : Type 0
DroppedRequestsAreRerun =
    (sender : List ℕ) (number : ℕ) (w last : World) (events : List Event) (sent : List Sent)
    (source same : List ℕ) (again : Request)
    → kept_text w.replies sender number ≡ None
    → AllByRecursion (IsNotRequested sender number) events → Run w events sent last
    → again.number ≡ number → str_eq_ignore_ascii_case sender same ≡ true
    → request_replied source same again last
    ≡ run_and_kept same again.number last (replied source again last.gateway)

-- Events preserve the invariant of the kept replies: there are at most 32, and no two answer the same request. A new
-- gateway keeps no replies.
abbrev pub RepliesAreKept : Type 0
RepliesAreKept =
    (base : World) (events : List Event) (sent : List Sent) (w : World)
    → AreKept base.replies → Run base events sent w → AreKept w.replies
