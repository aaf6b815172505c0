-- The tally after events.
use Rattle.std.proofs.Common.{◌≡◌, ℕ, ◌+◌, ◌<◌, Bool, true, false, cond, List, [], ◌∷◌, length, length-set, Option, Some, None, refl, sym, ap, subst, ◌∙◌, arith}
use Rattle.std.specs.Prelude.{count_by, slice_index, sum}
use Rattle.std.proofs.lemmas.List.Sums.{sum_by-cons, sum_by-set}
use Rattle.mg_words.specs.declared.peer.Peer.{Peer}
use Rattle.mg_kept.specs.KeptReplies.{kept_text}
use Rattle.mg_playout.specs.declared.placed.Placed.TheVariants as answers
use Rattle.mg_scan.specs.Span.{text_of}
use Rattle.mg_text.specs.declared.body.MessageItem.{MessageItem}
use Rattle.mg_text.specs.declared.body.MessageItem.TheVariants as items
use Rattle.mg_text.specs.declared.request.Request.{Request}
use Rattle.mg_text.specs.Message.{items_of}
use Rattle.mg_text.specs.MessageReading.{MessageReading, Read, TooMany, OtherVersion, NoMessage}
use Rattle.mg_engine.specs.declared.taken.DropCause.TheVariants as causes
use Rattle.mg_engine.specs.declared.taken.Taken.{Taken}
use Rattle.mg_engine.specs.declared.taken.Taken.TheVariants.{Placed, Dropped}
use Rattle.mg_engine.specs.Tick.{concealed_in_tick}
use Rattle.mg_core.specs.declared.event.Event.{Event}
use Rattle.mg_core.specs.declared.event.Event.TheVariants.{Control, Media, Tick}
use Rattle.mg_core.specs.Answer.{answer_head, answered, has_requests, if_asked, item_replied, mark_after, replied_to}
use Rattle.mg_core.specs.aids.Answers.{unless_kept}
use Rattle.mg_core.specs.Counting.{EventsAreCounted, is_control, is_media, is_tick}
use Rattle.mg_core.specs.Step.{Sent, Run}
use Rattle.mg_core.specs.World.{World, Tally, one_more_at, result_place, with_control, with_taken, with_tick}

-- ## A control datagram changes no other count

request_tally : (o : Option (List ℕ)) (source sender : List ℕ) (request : Request) (w : World) →
    (unless_kept o source sender request w).1.tally ≡ w.tally
request_tally (Some text) source sender request w = refl
request_tally None source sender request w = refl

item_tally : (source sender mark : List ℕ) (x : MessageItem) (w : World) →
    (item_replied source sender mark x w).1.tally ≡ w.tally
item_tally source sender mark (items.Request request) w =
    request_tally (kept_text w.replies sender request.number) source sender request w
item_tally source sender mark (items.Acknowledgement ranges) w = refl

items_tally : (source sender mark : List ℕ) (xs : List MessageItem) (w : World) →
    (replied_to source sender mark xs w).1.tally ≡ w.tally
unfolding replied_to
items_tally source sender mark [] w = refl
items_tally source sender mark (x ∷ xs) w =
    items_tally source sender (mark_after mark x) xs (item_replied source sender mark x w).1 ∙
    item_tally source sender mark x w

asked_tally : (b : Bool) (head : List ℕ) (p : List ℕ × World) → (if_asked b head p).1.tally ≡ p.1.tally
asked_tally true head p = refl
asked_tally false head p = refl

pub answer_tally : (source : List ℕ) (reading : MessageReading) (w : World) → (answered source reading w).1.tally ≡ w.tally
answer_tally source (Read m) w =
    let p = replied_to source (text_of source m.sender) [] (items_of m.body) w in
    asked_tally (has_requests (items_of m.body)) (answer_head w) p ∙
    items_tally source (text_of source m.sender) [] (items_of m.body) w
answer_tally source TooMany w = refl
answer_tally source (OtherVersion n) w = refl
answer_tally source NoMessage w = refl

-- ## Counting one more event

module _ {A : Type 0} (p : A → Bool) where
  count-cons : (x : A) (xs : List A) → count_by p (x ∷ xs) ≡ cond (p x) 1 0 + count_by p xs
  count-cons x xs = sum_by-cons (λ y. cond (p y) 1 0) x xs

  hit : (x : A) (xs : List A) (n : ℕ) → p x ≡ true → n + 1 + count_by p xs ≡ n + count_by p (x ∷ xs)
  hit x xs n e = omega (arith, count-cons x xs ∙ ap (λ (b : Bool). cond b 1 0 + count_by p xs) e)

  miss : (x : A) (xs : List A) (n : ℕ) → p x ≡ false → n + count_by p xs ≡ n + count_by p (x ∷ xs)
  miss x xs n e = omega (arith, count-cons x xs ∙ ap (λ (b : Bool). cond b 1 0 + count_by p xs) e)

zero_more : (n : ℕ) → n ≡ n + 0
zero_more n = omega arith

one_counter_more : (xs : List ℕ) (k : ℕ) → k < length xs → sum (one_more_at k xs) ≡ sum xs + 1
one_counter_more xs k few =
    let h = sum_by-set (λ (n : ℕ). n) xs k (slice_index xs k + 1) 0 few in omega (arith, h)

-- ## Counts of outcomes

result_below : (result : Taken) → result_place result < 11
result_below (Placed answers.Started) = omega arith
result_below (Placed answers.Placed) = omega arith
result_below (Placed answers.Pushed) = omega arith
result_below (Placed answers.Again) = omega arith
result_below (Placed answers.Late) = omega arith
result_below (Dropped causes.NoTermination) = omega arith
result_below (Dropped causes.Stray) = omega arith
result_below (Dropped causes.NoLocal) = omega arith
result_below (Dropped (causes.Rtp fault)) = omega arith
result_below (Dropped causes.PayloadType) = omega arith
result_below (Dropped causes.Length) = omega arith

HasCounters : Tally → Type 0
HasCounters t = length t.results ≡ 11

taken_keeps : (taken : Taken) (t : Tally) → HasCounters t → HasCounters (with_taken taken t)
unfolding HasCounters
taken_keeps taken t h =
    length-set t.results (result_place taken) (slice_index t.results (result_place taken) + 1) ∙ h

-- ## Counts after events

-- The counts after events are the earlier counts plus the numbers of these events.
record Grows (t : Tally) (events : List Event) (after : Tally) : Type 0 where
  control : after.control ≡ t.control + count_by is_control events
  media : after.media ≡ t.media + count_by is_media events
  ticks : after.ticks ≡ t.ticks + count_by is_tick events
  results : sum after.results ≡ sum t.results + count_by is_media events

control_grows : (source : Peer) (bytes : List ℕ) (events : List Event) (t after : Tally) →
    Grows (record t { control = t.control + 1 }) events after → Grows t (Control source bytes ∷ events) after
control_grows source bytes events t after h =
    let e : Event = Control source bytes in
    record {
      control = h.control ∙ hit is_control e events t.control refl;
      media = h.media ∙ miss is_media e events t.media refl;
      ticks = h.ticks ∙ miss is_tick e events t.ticks refl;
      results = h.results ∙ miss is_media e events (sum t.results) refl;
    }

media_grows : (taken : Taken) (port : ℕ) (source : Peer) (bytes : List ℕ) (events : List Event) (t after : Tally) →
    HasCounters t → Grows (with_taken taken t) events after → Grows t (Media port source bytes ∷ events) after
unfolding HasCounters
media_grows taken port source bytes events t after few h =
    let e : Event = Media port source bytes in
    let more = one_counter_more t.results (result_place taken) (omega (arith, few, result_below taken)) in
    record {
      control = h.control ∙ miss is_control e events t.control refl;
      media = h.media ∙ hit is_media e events t.media refl;
      ticks = h.ticks ∙ miss is_tick e events t.ticks refl;
      results = omega (arith, h.results, more, hit is_media e events (sum t.results) refl);
    }

tick_grows : (events : List Event) (concealed : ℕ) (t after : Tally) →
    Grows (with_tick concealed t) events after → Grows t (Tick ∷ events) after
tick_grows events concealed t after h = record {
  control = h.control ∙ miss is_control Tick events t.control refl;
  media = h.media ∙ miss is_media Tick events t.media refl;
  ticks = h.ticks ∙ hit is_tick Tick events t.ticks refl;
  results = h.results ∙ miss is_media Tick events (sum t.results) refl;
}

counted : (w last : World) (events : List Event) (sent : List Sent) → HasCounters w.tally → Run w events sent last →
    Grows w.tally events last.tally
unfolding HasCounters
counted w last [] sent few (none, is) = record {
  control = ap (λ (v : World). v.tally.control) is ∙ zero_more w.tally.control;
  media = ap (λ (v : World). v.tally.media) is ∙ zero_more w.tally.media;
  ticks = ap (λ (v : World). v.tally.ticks) is ∙ zero_more w.tally.ticks;
  results = ap (λ (v : World). sum v.tally.results) is ∙ zero_more (sum w.tally.results);
}
counted w last (Control source bytes ∷ events) sent few
    (first, others, next, (answer, (reading, read, represents), reported), run, is) =
    let same : next.tally ≡ (with_control w).tally = ap (λ (p : Option (List ℕ) × World). p.1.tally) (sym represents) ∙
    answer_tally bytes reading (with_control w) in
    control_grows source bytes events w.tally last.tally
    (subst (λ (t : Tally). Grows t events last.tally) same
    (counted next last events others (subst HasCounters (sym same) few) run))
counted w last (Media port source bytes ∷ events) sent few
    (first, others, next, (taken, (g, takes, makes), reported), run, is) =
    let same : next.tally ≡ with_taken taken w.tally = ap (λ (v : World). v.tally) makes in
    media_grows taken port source bytes events w.tally last.tally few
    (subst (λ (t : Tally). Grows t events last.tally) same
    (counted next last events others (subst HasCounters (sym same) (taken_keeps taken w.tally few)) run))
counted w last (Tick ∷ events) sent few (first, others, next, (reported, makes), run, is) =
    let concealed = concealed_in_tick w.gateway in
    let same : next.tally ≡ with_tick concealed w.tally = ap (λ (v : World). v.tally) makes in
    tick_grows events concealed w.tally last.tally
    (subst (λ (t : Tally). Grows t events last.tally) same
    (counted next last events others (subst HasCounters (sym same) few) run))

pub events_are_counted : EventsAreCounted
unfolding HasCounters
events_are_counted base events sent last few run =
    let h = counted base last events sent few run in
    record { control = h.control; media = h.media; ticks = h.ticks; results = h.results }
