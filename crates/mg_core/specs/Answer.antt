-- The answer to a control datagram, and how the datagram changes the world.
use Rattle.std.specs.Prelude.{◌≡◌, ℕ, nat_lt, Bool, true, false, List, [], ◌∷◌, ◌++◌, length}
use Rattle.std.specs.Prelude.{Option, Some, None, if◌then◌else◌}
use Rattle.std.specs.Option.{option_map_or}
use Rattle.std.specs.List.{list_any}
use Rattle.mg_scan.specs.Span.{text_of}
use Rattle.mg_kept.specs.KeptReplies.{KeptReply, kept_text, with_reply, without_range}
use Rattle.mg_text.specs.declared.message.Message.{Message}
use Rattle.mg_text.specs.declared.body.Range.{Range}
use Rattle.mg_text.specs.declared.request.Request.{Request}
use Rattle.mg_text.specs.declared.body.MessageItem.{MessageItem}
use Rattle.mg_text.specs.declared.body.MessageItem.TheVariants as items
use Rattle.mg_text.specs.Message.{items_of}
use Rattle.mg_text.specs.MessageReading.{MessageReading, Read, TooMany, OtherVersion, NoMessage}
use Rattle.mg_text.specs.MessageReading.{IsMessageReading}
use Rattle.mg_reply.specs.declared.item.Item.TheVariants as reported
use Rattle.mg_words.specs.declared.error_number.ErrorNumber.{ErrorNumber}
use Rattle.mg_words.specs.declared.error_number.ErrorNumber.TheVariants.{Syntax, Version, NotServed}
use Rattle.mg_words.specs.declared.error_number.ErrorNumber.TheVariants.{ReplyTooLong}
use Rattle.mg_words.specs.ErrorNumber.{error_text}
use Rattle.mg_reply.specs.declared.item.Item.{Item}
use Rattle.mg_words.specs.Limits.{reply_limit}
use Rattle.mg_reply.specs.Written.{head_text, reply_text}
use Rattle.mg_commands.specs.Transaction.{TransactionState, replied}
use Rattle.mg_core.specs.World.{World}

-- ## A reply

-- The text of a reply: the whole reply if it is at most 16,000 bytes long, otherwise an error.
abbrev pub sent_text : ℕ → List Item → List ℕ
sent_text n items =
    if nat_lt reply_limit (length (reply_text n items))
    then reply_text n (reported.Fault ReplyTooLong ∷ [])
    else reply_text n items

-- ## The items of a message

abbrev pub is_request : MessageItem → Bool
is_request (items.Request request) = true
is_request (items.Acknowledgement ranges) = false

abbrev pub has_requests : List MessageItem → Bool
has_requests xs = list_any is_request xs

-- ## A request

-- The reply to a request that is run, and the world after it. In that world, the gateway has run the request's
-- commands, and the reply is kept.
abbrev pub run_and_kept : List ℕ → ℕ → World → TransactionState → List ℕ × World
run_and_kept sender n w s =
    let text = sent_text n s.items in (
      text,
      record w {
        gateway = s.gateway;
        replies = with_reply (record { sender = sender; number = n; text = text }) w.replies;
      },
    )

-- The reply to a sender's request, and the world after it (RFC 3525, section 8.2). If a reply to the request is kept,
-- that reply is sent and the world is unchanged.
abbrev pub request_replied : List ℕ → List ℕ → Request → World → List ℕ × World
request_replied source sender request w =
    option_map_or (λ text. (text, w)) (kept_text w.replies sender request.number)
    (run_and_kept sender request.number w (replied source request w.gateway))

-- ## An item of a message

-- The kept replies that remain after a sender acknowledged these ranges of numbers.
abbrev pub without_ranges : List ℕ → List Range → List KeptReply → List KeptReply
without_ranges sender [] replies = replies
without_ranges sender (x ∷ xs) replies =
    without_ranges sender xs (without_range sender x.first x.last replies)

-- Puts this text in front of the written text. The world stays the same.
abbrev pub with_front : List ℕ → List ℕ × World → List ℕ × World
with_front text p = (text ++ p.0, p.1)

-- The text written for an item from a sender, and the world after it. For a request, this is a separator and the reply.
-- For an acknowledgement, nothing is written.
abbrev pub item_replied : List ℕ → List ℕ → List ℕ → MessageItem → World → List ℕ × World
item_replied source sender mark (items.Request request) w =
    with_front mark (request_replied source sender request w)
item_replied source sender mark (items.Acknowledgement ranges) w =
    ([], record w { replies = without_ranges sender ranges w.replies })

-- The separator before the next reply: a line feed after a request. After an acknowledgement, the separator stays the
-- same.
abbrev pub mark_after : List ℕ → MessageItem → List ℕ
mark_after mark (items.Request request) = 10 ∷ []
mark_after mark (items.Acknowledgement ranges) = mark

-- The text of the first part, followed by the text of the rest. The rest runs in the world that the first part left.
abbrev pub followed : (World → List ℕ × World) → List ℕ × World → List ℕ × World
followed rest p = with_front p.0 (rest p.1)

-- The replies to the requests among the items, with this separator before the first reply, and the world after all
-- items. Each item is handled in the world that the previous item left.
unfoldable pub replied_to : List ℕ → List ℕ → List ℕ → List MessageItem → World → List ℕ × World
replied_to source sender mark [] w = ([], w)
replied_to source sender mark (x ∷ xs) w =
    followed (replied_to source sender (mark_after mark x) xs) (item_replied source sender mark x w)

-- ## A datagram

-- The head of an answer.
abbrev pub answer_head : World → List ℕ
answer_head w = head_text w.gateway.config.control_address w.gateway.config.control_port

-- An answer with the replies after its head, or no answer if there was no request.
abbrev pub if_asked : Bool → List ℕ → List ℕ × World → Option (List ℕ) × World
if_asked true head p = (Some (head ++ p.0), p.1)
if_asked false head p = (None, p.1)

-- The answer to a message in the world `w`, or `None` if the message has no request, and the world after the message.
abbrev pub to_message : List ℕ → Message → World → Option (List ℕ) × World
to_message source m w =
    if_asked (has_requests (items_of m.body)) (answer_head w)
    (replied_to source (text_of source m.sender) [] (items_of m.body) w)

-- The answer to a datagram that is rejected as a whole. The world does not change.
abbrev pub refused : ErrorNumber → World → Option (List ℕ) × World
refused number w = (Some (answer_head w ++ error_text number), w)

abbrev pub answered : List ℕ → MessageReading → World → Option (List ℕ) × World
answered source (Read m) w = to_message source m w
answered source TooMany w = refused NotServed w
answered source (OtherVersion n) w = refused Version w
answered source NoMessage w = refused Syntax w

-- In the world `w`, a datagram gets this answer (or none), and leads to the next world. Its reading determines both.
abbrev pub Answers : List ℕ → World → Option (List ℕ) → World → Type 0
Answers source w answer next =
    (reading : MessageReading) × IsMessageReading source reading
    × (answered source reading w ≡ (answer, next))
