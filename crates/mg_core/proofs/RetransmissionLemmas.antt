-- How long the kept reply answers retransmissions of a request.
use Rattle.std.proofs.Common.{◌≡◌, ℕ, ◌+◌, ◌<◌, ◌≤◌, Bool, true, false, ◌&&◌, cond, eqb, leb, List, [], ◌∷◌, length, Option, Some, None, is_none, refl, sym, ap, ◌∙◌, subst, arith, inl, inr}
use Rattle.std.specs.List.{AllByRecursion, list_any}
use Rattle.std.specs.Str.{str_eq_ignore_ascii_case, str_to_ascii_lowercase}
use Rattle.std.proofs.lemmas.Bool.{cases_Bool, false≢true, false_from_ne_true, leb-true, and_parts, or_parts}
use Rattle.std.proofs.lemmas.Slice.Eq.{bytes_eq-Decides}
use Rattle.mg_words.specs.Limits.{kept_limit}
use Rattle.mg_scan.specs.Span.{text_of}
use Rattle.mg_kept.specs.KeptReplies.{AreKept, KeptReply, is_reply_to, kept_text, newer_than, with_reply, without_range}
use Rattle.mg_kept.specs.Theorems.{AcknowledgedIsDropped, CaseIsIgnored}
use Rattle.mg_kept.specs.aids.Changes.{NewerRepliesEvict, FewNewerStay, DroppedStayDropped, KeptStayDistinct, LastIsNewest, UnnamedStay}
use Rattle.mg_text.specs.declared.body.MessageItem.{MessageItem}
use Rattle.mg_text.specs.declared.body.MessageItem.TheVariants as items
use Rattle.mg_text.specs.declared.body.Range.{Range}
use Rattle.mg_text.specs.declared.message.Message.{Message}
use Rattle.mg_text.specs.declared.request.Request.{Request}
use Rattle.mg_text.specs.Message.{items_of}
use Rattle.mg_text.specs.MessageReading.{IsMessageReading, MessageReading, Read, TooMany, OtherVersion, NoMessage}
use Rattle.mg_commands.specs.Transaction.{replied}
use Rattle.mg_core.specs.declared.event.Event.{Event}
use Rattle.mg_core.specs.declared.event.Event.TheVariants.{Control, Media, Tick}
use Rattle.mg_core.specs.Answer.{answer_head, answered, has_requests, if_asked, item_replied, mark_after, replied_to, request_replied, run_and_kept, without_ranges}
use Rattle.mg_core.specs.aids.Answers.{unless_kept}
use Rattle.mg_core.specs.Retransmissions.{AcknowledgedAreDropped, DroppedRequestsAreRerun, IsNotRequested, NewReplyIsNewest, EvictedAreDropped, RepliesAreKept, RepliesPersist, AllPreserveReply, PreservesReply, acknowledges, is_request_for, kept_for, kept_for_all}
use Rattle.mg_core.specs.Step.{Run, Sent, Step}
use Rattle.mg_core.specs.World.{World, with_control}

-- Whether a reply is kept for a request determines how the request is answered.
pub replied_by : (source sender : List ℕ) (request : Request) (w : World) (o : Option (List ℕ)) →
    kept_text w.replies sender request.number ≡ o →
    request_replied source sender request w ≡ unless_kept o source sender request w
replied_by source sender request w o is = ap (λ (x : Option (List ℕ)). unless_kept x source sender request w) is

-- The reply that is kept after a request was run.
abbrev reply_of : List ℕ → List ℕ → Request → World → KeptReply
reply_of source sender request w = record {
  sender = sender;
  number = request.number;
  text = (run_and_kept sender request.number w (replied source request w.gateway)).0;
}

-- The comparison of names that ignores case is reflexive (`own`) and symmetric (`turned`).
own : (a : List ℕ) → str_eq_ignore_ascii_case a a ≡ true
own a = (bytes_eq-Decides (str_to_ascii_lowercase a) (str_to_ascii_lowercase a)).1 refl

turned : (a b : List ℕ) → str_eq_ignore_ascii_case a b ≡ true → str_eq_ignore_ascii_case b a ≡ true
turned a b h = (bytes_eq-Decides (str_to_ascii_lowercase b) (str_to_ascii_lowercase a)).1
    (sym ((bytes_eq-Decides (str_to_ascii_lowercase a) (str_to_ascii_lowercase b)).0 h))

asked_world : (b : Bool) (head : List ℕ) (p : List ℕ × World) → (if_asked b head p).1 ≡ p.1
asked_world true head p = refl
asked_world false head p = refl

-- A property that the items of a message preserve also holds after the message is answered.
answer_world : (P : World → Type 0) (source : List ℕ) (reading : MessageReading) (w : World) → P w
    → ((m : Message) → reading ≡ Read m → P (replied_to source (text_of source m.sender) [] (items_of m.body) w).1) →
    P (answered source reading w).1
answer_world P source (Read m) w here there =
    subst P (sym (asked_world (has_requests (items_of m.body)) (answer_head w)
    (replied_to source (text_of source m.sender) [] (items_of m.body) w))) (there m refl)
answer_world P source TooMany w here there = here
answer_world P source (OtherVersion n) w here there = here
answer_world P source NoMessage w here there = here

has_history : (w next : World) (bytes : List ℕ) (reading : MessageReading) (answer : Option (List ℕ)) →
    answered bytes reading w ≡ (answer, next) → (P : World → Type 0) → P (answered bytes reading w).1 → P next
has_history w next bytes reading answer represents P h = subst P (ap (λ (p : Option (List ℕ) × World). p.1) represents) h

-- ## A reply that stays kept

module _ (few : FewNewerStay) (unnamed : UnnamedStay) (sender text : List ℕ) (number : ℕ) where
  -- The reply is kept, and at most `n` replies are newer.
  abbrev Stays : ℕ → List KeptReply → Type 0
  Stays n replies = (kept_text replies sender number ≡ Some text) × (length (newer_than replies sender number) ≤ n)

  one_more : (n : ℕ) (reply : KeptReply) (replies : List KeptReply) → n + 1 < kept_limit → Stays n replies →
      Stays (n + 1) (with_reply reply replies)
  one_more n reply replies low (kept, newer) =
      let (still, more) = few replies reply sender text number kept (omega arith) in (still, omega arith)

  ranges_spare : (n : ℕ) (from : List ℕ) (ranges : List Range) (replies : List KeptReply)
      → list_any (λ x. leb x.first number && leb number x.last && str_eq_ignore_ascii_case sender from) ranges ≡ false
      → Stays n replies → Stays n (without_ranges from ranges replies)
  ranges_spare n from [] replies out h = h
  ranges_spare n from (x ∷ xs) replies out (kept, newer) =
      let (this, others) = or_parts (leb x.first number && leb number x.last && str_eq_ignore_ascii_case sender from) _
      out in
      let (same, fewer) = unnamed replies sender from number x.first x.last this in
      ranges_spare n from xs (without_range from x.first x.last replies) others (same ∙ kept, omega arith)

  request_spares : (n : ℕ) (source from : List ℕ) (request : Request) (w : World) (o : Option (List ℕ)) →
      n + (cond (is_none o) 1 0) < kept_limit
      → Stays n w.replies → Stays (n + (cond (is_none o) 1 0)) (unless_kept o source from request w).1.replies
  request_spares n source from request w (Some reported) low (kept, newer) = (kept, omega arith)
  request_spares n source from request w None low h = one_more n (reply_of source from request w) w.replies low h

  item_spares : (n : ℕ) (source from mark : List ℕ) (x : MessageItem) (w : World) →
      acknowledges sender number from x ≡ false → n + kept_for from x w < kept_limit
      → Stays n w.replies → Stays (n + kept_for from x w) (item_replied source from mark x w).1.replies
  item_spares n source from mark (items.Request request) w out low h =
      request_spares n source from request w (kept_text w.replies from request.number) low h
  item_spares n source from mark (items.Acknowledgement ranges) w out low h =
      let (kept, newer) = ranges_spare n from ranges w.replies out h in (kept, omega arith)

  items_spare : (n : ℕ) (source from mark : List ℕ) (xs : List MessageItem) (w : World) →
      list_any (acknowledges sender number from) xs ≡ false
      → n + kept_for_all source from xs w < kept_limit → Stays n w.replies →
      Stays (n + kept_for_all source from xs w) (replied_to source from mark xs w).1.replies
  unfolding replied_to
  items_spare n source from mark [] w out low (kept, newer) = (kept, omega arith)
  items_spare n source from mark (items.Request request ∷ xs) w out low h =
      let x = items.Request request in
      let (this, others) = or_parts (acknowledges sender number from x) (list_any (acknowledges sender number from) xs)
      out in
      let next = (item_replied source from [] x w).1 in
      let (kept, newer) = items_spare (n + kept_for from x w) source from (mark_after mark x) xs next others
      (omega arith) (item_spares n source from [] x w this (omega arith) h) in
      (kept, omega arith)
  items_spare n source from mark (items.Acknowledgement ranges ∷ xs) w out low h =
      let x = items.Acknowledgement ranges in
      let (this, others) = or_parts (acknowledges sender number from x) (list_any (acknowledges sender number from) xs)
      out in
      let next = (item_replied source from [] x w).1 in
      let (kept, newer) = items_spare n source from (mark_after mark x) xs next others (omega arith)
      (ranges_spare n from ranges w.replies this h) in
      (kept, omega arith)

  event_spares : (n k : ℕ) (w next : World) (event : Event) (sent : List Sent) → PreservesReply sender number w event k →
      n + k < kept_limit → Step w event sent next
      → Stays n w.replies → Stays (n + k) next.replies
  event_spares n k w next (Control source bytes) sent spares low (answer, (reading, reads, represents), reported) (kept, newer) =
      has_history (with_control w) next bytes reading answer represents (λ (v : World). Stays (n + k) v.replies)
      (answer_world (λ (v : World). Stays (n + k) v.replies) bytes reading (with_control w) (kept, omega arith)
      (λ m is.
      let (out, few_more) = spares m (subst (λ (r : MessageReading). IsMessageReading bytes r) is reads) in
      let (still, fewer) = items_spare n bytes (text_of bytes m.sender) [] (items_of m.body) (with_control w) out
      (omega arith) (kept, newer) in
      (still, omega arith)))
  event_spares n k w next (Media port source bytes) sent spares low (taken, (g, takes, is), reported) (kept, newer) =
      subst (λ (v : World). Stays (n + k) v.replies) (sym is) (kept, omega arith)
  event_spares n k w next Tick sent spares low (reported, is) (kept, newer) =
      subst (λ (v : World). Stays (n + k) v.replies) (sym is) (kept, omega arith)

  events_spare : (n k : ℕ) (w last : World) (events : List Event) (sent : List Sent) →
      AllPreserveReply sender number w events k → n + k < kept_limit → Run w events sent last
      → Stays n w.replies → Stays (n + k) last.replies
  events_spare n k w last [] sent spare low (none, is) (kept, newer) =
      subst (λ (v : World). Stays (n + k) v.replies) (sym is) (kept, omega arith)
  events_spare n k w last (event ∷ events) sent (a, b, within, this, others) low (first, more, next, step, run, are) h =
      let (kept, newer) = events_spare (n + a) b next last events more (others first next step) (omega arith) run
      (event_spares n a w next event first this (omega arith) step h) in
      (kept, omega arith)

pub replies_persist : FewNewerStay → UnnamedStay → CaseIsIgnored → RepliesPersist
replies_persist few unnamed letters sender text number w last events sent n source same again kept low spare run
    number_is one =
    let (still, newer) = events_spare few unnamed sender text number (length (newer_than w.replies sender number)) n w
    last events sent spare low run (kept, omega arith) in
    let found : kept_text last.replies same again.number ≡ Some text = ap (kept_text last.replies same) number_is ∙
    letters last.replies sender same number one ∙ still in
    replied_by source same again last (Some text) found

pub new_reply_is_newest : LastIsNewest → NewReplyIsNewest
new_reply_is_newest newest source sender request w none =
    ap (λ (p : List ℕ × World). newer_than p.1.replies sender request.number)
    (replied_by source sender request w None none)
    ∙ newest w.replies (reply_of source sender request w) sender none (own sender)

-- ## A reply that was dropped

module _ (gone : DroppedStayDropped) (sender : List ℕ) (number : ℕ) where
  abbrev IsGone : List KeptReply → Type 0
  IsGone replies = kept_text replies sender number ≡ None

  ranges_leave : (from : List ℕ) (ranges : List Range) (replies : List KeptReply) → IsGone replies →
      IsGone (without_ranges from ranges replies)
  ranges_leave from [] replies h = h
  ranges_leave from (x ∷ xs) replies h = ranges_leave from xs (without_range from x.first x.last replies)
      ((gone replies sender number h).1 from x.first x.last)

  ranges_end : AcknowledgedIsDropped → (from : List ℕ) (ranges : List Range) (replies : List KeptReply)
      → list_any (λ x. leb x.first number && leb number x.last && str_eq_ignore_ascii_case sender from) ranges ≡
      true → IsGone (without_ranges from ranges replies)
  ranges_end named from [] replies h = absurd (false≢true h)
  ranges_end named from (x ∷ xs) replies h =
      elim (cases_Bool (leb x.first number && leb number x.last && str_eq_ignore_ascii_case sender from)) [
        | inl e ↦
            let (range, one) =
            and_parts (leb x.first number && leb number x.last) (str_eq_ignore_ascii_case sender from) e in
            let (low, high) = and_parts (leb x.first number) (leb number x.last) range in
            ranges_leave from xs (without_range from x.first x.last replies)
            (named replies from sender x.first x.last number one (leb-true x.first number low)
            (leb-true number x.last high))
        | inr e ↦
            let later : list_any (λ x. leb x.first number && leb number x.last && str_eq_ignore_ascii_case sender
            from) xs ≡ true = rw e at h in
            ranges_end named from xs (without_range from x.first x.last replies) later
      ]

  not_asked : (source from : List ℕ) (request : Request) (w : World) →
      is_request_for sender number from (items.Request request) ≡ false →
      is_reply_to sender number (reply_of source from request w) ≡ false
  not_asked source from request w h =
      false_from_ne_true _ (λ t.
      let (same, one) = and_parts (eqb request.number number) (str_eq_ignore_ascii_case from sender) t in
      let it : is_request_for sender number from (items.Request request) ≡ true = rw (same, turned from sender one) refl in
      false≢true (sym h ∙ it))

  request_leaves : (source from : List ℕ) (request : Request) (w : World) (o : Option (List ℕ)) →
      is_request_for sender number from (items.Request request) ≡ false → IsGone w.replies →
      IsGone (unless_kept o source from request w).1.replies
  request_leaves source from request w (Some text) out h = h
  request_leaves source from request w None out h =
      (gone w.replies sender number h).0 (reply_of source from request w) (not_asked source from request w out)

  item_leaves : (source from mark : List ℕ) (x : MessageItem) (w : World) → is_request_for sender number from x ≡ false →
      IsGone w.replies → IsGone (item_replied source from mark x w).1.replies
  item_leaves source from mark (items.Request request) w out h =
      request_leaves source from request w (kept_text w.replies from request.number) out h
  item_leaves source from mark (items.Acknowledgement ranges) w out h = ranges_leave from ranges w.replies h

  items_leave : (source from mark : List ℕ) (xs : List MessageItem) (w : World) →
      list_any (is_request_for sender number from) xs ≡ false → IsGone w.replies →
      IsGone (replied_to source from mark xs w).1.replies
  unfolding replied_to
  items_leave source from mark [] w out h = h
  items_leave source from mark (x ∷ xs) w out h =
      let (this, others) = or_parts (is_request_for sender number from x) (list_any (is_request_for sender number from) xs) out in
      items_leave source from (mark_after mark x) xs (item_replied source from mark x w).1 others
      (item_leaves source from mark x w this h)

  event_leaves : (w next : World) (event : Event) (sent : List Sent) → IsNotRequested sender number event →
      Step w event sent next → IsGone w.replies → IsGone next.replies
  event_leaves w next (Control source bytes) sent out (answer, (reading, reads, represents), reported) h =
      has_history (with_control w) next bytes reading answer represents (λ (v : World). IsGone v.replies)
      (answer_world (λ (v : World). IsGone v.replies) bytes reading (with_control w) h
      (λ m is. items_leave bytes (text_of bytes m.sender) [] (items_of m.body) (with_control w)
      (out m (subst (λ (r : MessageReading). IsMessageReading bytes r) is reads)) h))
  event_leaves w next (Media port source bytes) sent out (taken, (g, takes, is), reported) h =
      subst (λ (v : World). IsGone v.replies) (sym is) h
  event_leaves w next Tick sent out (reported, is) h = subst (λ (v : World). IsGone v.replies) (sym is) h

  events_leave : (w last : World) (events : List Event) (sent : List Sent) →
      AllByRecursion (IsNotRequested sender number) events → Run w events sent last → IsGone w.replies → IsGone last.replies
  events_leave w last [] sent out (none, is) h = subst (λ (v : World). IsGone v.replies) (sym is) h
  events_leave w last (event ∷ events) sent (this, others) (first, more, next, step, run, are) h =
      events_leave next last events more others run (event_leaves w next event first this step h)

pub acknowledged_are_dropped : DroppedStayDropped → AcknowledgedIsDropped → AcknowledgedAreDropped
acknowledged_are_dropped gone named source sender from mark number (items.Request request) w h = absurd (false≢true h)
acknowledged_are_dropped gone named source sender from mark number (items.Acknowledgement ranges) w h =
    ranges_end gone sender number named from ranges w.replies h

pub evicted_are_dropped : DroppedStayDropped → NewerRepliesEvict → EvictedAreDropped
evicted_are_dropped gone many source sender from number request w kept full none out =
    ap (λ (p : List ℕ × World). kept_text p.1.replies sender number) (replied_by source from request w None none)
    ∙ many w.replies (reply_of source from request w) sender number kept full
    (not_asked gone sender number source from request w out)

pub dropped_requests_are_rerun : DroppedStayDropped → CaseIsIgnored → DroppedRequestsAreRerun
dropped_requests_are_rerun gone letters sender number w last events sent source same again none out run number_is one =
    let missing : kept_text last.replies same again.number ≡ None =
    ap (kept_text last.replies same) number_is ∙ letters last.replies sender same number one ∙
    events_leave gone sender number w last events sent out run none in
    replied_by source same again last None missing

-- ## No two kept replies answer the same request

module _ (distinct : KeptStayDistinct) where
  ranges_keep : (from : List ℕ) (ranges : List Range) (replies : List KeptReply) → AreKept replies →
      AreKept (without_ranges from ranges replies)
  ranges_keep from [] replies h = h
  ranges_keep from (x ∷ xs) replies h = ranges_keep from xs (without_range from x.first x.last replies)
      ((distinct replies h).1 from x.first x.last)

  request_keeps : (source from : List ℕ) (request : Request) (w : World) (o : Option (List ℕ)) →
      kept_text w.replies from request.number ≡ o → AreKept w.replies →
      AreKept (unless_kept o source from request w).1.replies
  request_keeps source from request w (Some text) is h = h
  request_keeps source from request w None is h = (distinct w.replies h).0 (reply_of source from request w) is

  item_keeps : (source from mark : List ℕ) (x : MessageItem) (w : World) → AreKept w.replies →
      AreKept (item_replied source from mark x w).1.replies
  item_keeps source from mark (items.Request request) w h =
      request_keeps source from request w (kept_text w.replies from request.number) refl h
  item_keeps source from mark (items.Acknowledgement ranges) w h = ranges_keep from ranges w.replies h

  items_keep : (source from mark : List ℕ) (xs : List MessageItem) (w : World) → AreKept w.replies →
      AreKept (replied_to source from mark xs w).1.replies
  unfolding replied_to
  items_keep source from mark [] w h = h
  items_keep source from mark (x ∷ xs) w h =
      items_keep source from (mark_after mark x) xs (item_replied source from mark x w).1
      (item_keeps source from mark x w h)

  pub event_keeps : (w next : World) (event : Event) (sent : List Sent) → Step w event sent next → AreKept w.replies →
      AreKept next.replies
  event_keeps w next (Control source bytes) sent (answer, (reading, reads, represents), reported) h =
      has_history (with_control w) next bytes reading answer represents (λ (v : World). AreKept v.replies)
      (answer_world (λ (v : World). AreKept v.replies) bytes reading (with_control w) h
      (λ m is. items_keep bytes (text_of bytes m.sender) [] (items_of m.body) (with_control w) h))
  event_keeps w next (Media port source bytes) sent (taken, (g, takes, is), reported) h =
      subst (λ (v : World). AreKept v.replies) (sym is) h
  event_keeps w next Tick sent (reported, is) h = subst (λ (v : World). AreKept v.replies) (sym is) h

  events_keep : (w last : World) (events : List Event) (sent : List Sent) → Run w events sent last →
      AreKept w.replies → AreKept last.replies
  events_keep w last [] sent (none, is) h = subst (λ (v : World). AreKept v.replies) (sym is) h
  events_keep w last (event ∷ events) sent (first, more, next, step, run, are) h =
      events_keep next last events more run (event_keeps w next event first step h)

  pub replies_are_kept : RepliesAreKept
  replies_are_kept base events sent w kept run = events_keep base w events sent run kept
