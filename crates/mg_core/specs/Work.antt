-- The number of edits that a control datagram causes. Each edit costs
-- rows of samples, by this project's own rule.
use Rattle.std.specs.Prelude.{◌≡◌, ℕ, ◌+◌, List, [], ◌∷◌, Option, Some, None}
use Rattle.mg_scan.specs.Span.{text_of}
use Rattle.mg_kept.specs.KeptReplies.{kept_text}
use Rattle.mg_text.specs.declared.body.MessageItem.{MessageItem}
use Rattle.mg_text.specs.declared.body.MessageItem.TheVariants as items
use Rattle.mg_text.specs.Message.{items_of}
use Rattle.mg_text.specs.MessageReading.{MessageReading, Read}
use Rattle.mg_text.specs.MessageReading.{IsMessageReading}
use Rattle.mg_reply.specs.declared.item.Item.{Item}
use Rattle.mg_commands.specs.Transaction.{replied}
use Rattle.mg_commands.specs.Work.{edits_reported}
use Rattle.mg_core.specs.Answer.{item_replied}
use Rattle.mg_core.specs.World.{World}

-- The number of edits of a request. A request that is answered with a kept reply causes no edits.
abbrev pub edits_unless_kept : Option (List ℕ) → List Item → ℕ
edits_unless_kept (Some text) reported = 0
edits_unless_kept None reported = edits_reported reported

-- The number of edits that an item of a sender's message causes in the world `w`.
abbrev pub edits_by_item : List ℕ → List ℕ → MessageItem → World → ℕ
edits_by_item source sender (items.Request request) w =
    edits_unless_kept (kept_text w.replies sender request.number)
    (replied source request w.gateway).items
edits_by_item source sender (items.Acknowledgement ranges) w = 0

-- The number of edits of several items, each handled in the world that the previous item left.
unfoldable pub edits_by_items : List ℕ → List ℕ → List MessageItem → World → ℕ
edits_by_items source sender [] w = 0
edits_by_items source sender (x ∷ xs) w =
    edits_by_item source sender x w
    + edits_by_items source sender xs (item_replied source sender [] x w).1

-- The number of edits of a datagram. A datagram that is rejected as a whole causes no edits.
abbrev pub edits_by : List ℕ → MessageReading → World → ℕ
edits_by source (Read m) w = edits_by_items source (text_of source m.sender) (items_of m.body) w
edits_by source _ w = 0

-- A datagram in the world `w` causes this many edits, according to its reading.
abbrev pub CausesEdits : List ℕ → World → ℕ → Type 0
CausesEdits source w edits =
    (reading : MessageReading) × IsMessageReading source reading
    × (edits ≡ edits_by source reading w)
