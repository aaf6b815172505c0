-- Properties that all events preserve, and the consistency of terminations and contexts.
use Rattle.std.proofs.Common.{ℕ, Bool, true, false, List, [], ◌∷◌, Option, Some, None, sym, ap, subst}
use Rattle.mg_kept.specs.KeptReplies.{kept_text}
use Rattle.mg_rooms.specs.Consistent.{IsConsistent}
use Rattle.mg_commands.specs.Theorems.{RequestsAreConsistent}
use Rattle.mg_commands.specs.Transaction.{replied}
use Rattle.mg_engine.specs.declared.taken.Taken.{Taken}
use Rattle.mg_engine.specs.Arrival.{Takes}
use Rattle.mg_engine.specs.Gateway as engine
use Rattle.mg_scan.specs.Span.{text_of}
use Rattle.mg_text.specs.declared.body.MessageItem.{MessageItem}
use Rattle.mg_text.specs.declared.body.MessageItem.TheVariants as items
use Rattle.mg_text.specs.declared.message.Message.{Message}
use Rattle.mg_text.specs.declared.request.Request.{Request}
use Rattle.mg_text.specs.Message.{items_of}
use Rattle.mg_text.specs.MessageReading.{MessageReading, Read, TooMany, OtherVersion, NoMessage}
use Rattle.mg_core.specs.declared.event.Event.{Event}
use Rattle.mg_core.specs.declared.event.Event.TheVariants.{Control, Media, Tick}
use Rattle.mg_core.specs.Answer.{answer_head, answered, has_requests, if_asked, item_replied, mark_after, replied_to, to_message}
use Rattle.mg_core.specs.aids.Answers.{unless_kept}
use Rattle.mg_core.specs.Step.{Run, Sent, Step}
use Rattle.mg_core.specs.World.{World, with_control}

abbrev pub IsConsistentWorld : World → Type 0
IsConsistentWorld w = IsConsistent w.gateway.rooms

abbrev pub ArrivalsAreConsistent : Type 0
ArrivalsAreConsistent = (w next : engine.Gateway) (port : ℕ) (source bytes : List ℕ) (result : Taken) →
    IsConsistent w.rooms → Takes w port source bytes next result → IsConsistent next.rooms

-- If requests preserve a property of the gateway, so do the items of a message, whole messages and control datagrams.
module _ (Q : engine.Gateway → Type 0) (requests : (source : List ℕ) (request : Request) (w : engine.Gateway) → Q w →
    Q (replied source request w).gateway)
  where
    abbrev Has : World → Type 0
    Has w = Q w.gateway

    request_keeps : (o : Option (List ℕ)) (source sender : List ℕ) (request : Request) (w : World) →
        Has w → Has (unless_kept o source sender request w).1
    request_keeps (Some text) source sender request w h = h
    request_keeps None source sender request w h = requests source request w.gateway h

    item_keeps : (source sender mark : List ℕ) (x : MessageItem) (w : World) → Has w →
        Has (item_replied source sender mark x w).1
    item_keeps source sender mark (items.Request request) w h =
        request_keeps (kept_text w.replies sender request.number) source sender request w h
    item_keeps source sender mark (items.Acknowledgement ranges) w h = h

    items_keep : (source sender mark : List ℕ) (xs : List MessageItem) (w : World) → Has w →
        Has (replied_to source sender mark xs w).1
    unfolding replied_to
    items_keep source sender mark [] w h = h
    items_keep source sender mark (x ∷ xs) w h =
        items_keep source sender (mark_after mark x) xs (item_replied source sender mark x w).1
        (item_keeps source sender mark x w h)

    asked_keeps : (b : Bool) (head : List ℕ) (p : List ℕ × World) → Has p.1 →
        Has (if_asked b head p).1
    asked_keeps true head p h = h
    asked_keeps false head p h = h

    message_keeps : (source : List ℕ) (m : Message) (w : World) → Has w →
        Has (to_message source m w).1
    message_keeps source m w h =
        asked_keeps (has_requests (items_of m.body)) (answer_head w)
        (replied_to source (text_of source m.sender) [] (items_of m.body) w)
        (items_keep source (text_of source m.sender) [] (items_of m.body) w h)

    pub answer_keeps : (source : List ℕ) (reading : MessageReading) (w : World) → Has w →
        Has (answered source reading w).1
    answer_keeps source (Read m) w h = message_keeps source m w h
    answer_keeps source TooMany w h = h
    answer_keeps source (OtherVersion n) w h = h
    answer_keeps source NoMessage w h = h

module _ (requests : RequestsAreConsistent) (arrivals : ArrivalsAreConsistent) where
  -- Each event preserves the consistency of terminations and contexts.
  pub step_keeps : (w : World) (event : Event) (sent : List Sent) (next : World) → IsConsistentWorld w →
      Step w event sent next → IsConsistentWorld next
  step_keeps w (Control source bytes) sent next h (answer, (reading, is, represents), reported) =
      subst IsConsistentWorld (ap (λ (p : Option (List ℕ) × World). p.1) represents)
      (answer_keeps (λ (g : engine.Gateway). IsConsistent g.rooms) requests bytes reading (with_control w) h)
  step_keeps w (Media port source bytes) sent next h (taken, (g, takes, is), reported) =
      subst IsConsistentWorld (sym is) (arrivals w.gateway g port source.address bytes taken h takes)
  step_keeps w Tick sent next h (reported, is) = subst IsConsistentWorld (sym is) h

  pub run_keeps : (w last : World) (events : List Event) (sent : List Sent) → IsConsistentWorld w →
      Run w events sent last → IsConsistentWorld last
  run_keeps w last [] sent h (none, is) = subst IsConsistentWorld (sym is) h
  run_keeps w last (event ∷ events) sent h (first, others, next, step, run, are) =
      run_keeps next last events others (step_keeps w event first next h step) run
