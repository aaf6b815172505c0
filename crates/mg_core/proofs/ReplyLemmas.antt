-- Writing the replies of a message one after another.
use Rattle.std.specs.List.{list_all}
use Rattle.std.proofs.Common.{◌≡◌, ◌&&◌, eqb, if◌then◌else◌, ℕ, ◌+◌, ◌-◌, ◌^◌, ◌<◌, ◌≤◌, ltb, ◌||◌, Bool, true, false, List, [], ◌∷◌, ◌++◌, length, get_or, drop, Option, Some, None, Result, Ok, Err, refl, sym, ap, ◌∙◌, append_assoc, length-append, arith}
use Rattle.std.specs.Prelude.{is_err, IsOk}
use Rattle.std.proofs.lemmas.Bool.{le-ltb, or_parts}
use Rattle.std.proofs.lemmas.List.{drop_more, drop_all, append-nil}
use Rattle.std.proofs.lemmas.List.Folds.{list_all_at}
use Rattle.std.proofs.lemmas.Fmt.{length-decimal-le}
use Rattle.mg_text.specs.declared.body.MessageItem.{MessageItem}
use Rattle.mg_text.specs.declared.body.MessageItem.TheVariants as items
use Rattle.mg_text.specs.Message.{requests_in}
use Rattle.mg_text.specs.Proper.{are_proper, item_is_proper}
use Rattle.mg_reply.specs.declared.item.Item.TheVariants.{Fault}
use Rattle.mg_words.specs.declared.error_number.ErrorNumber.TheVariants.{ReplyTooLong}
use Rattle.mg_words.specs.ErrorNumber.{error_row, error_text}
use Rattle.mg_reply.specs.Written.{reply_text}
use Rattle.mg_engine.specs.aids.Stands as engine_stands
use Rattle.mg_core.specs.declared.state.CoreState.{CoreState}
use Rattle.mg_core.specs.World.{World}
use Rattle.mg_core.specs.aids.Stands.{StandsFor}
use Rattle.mg_core.specs.aids.Steps.{TextGrows, put_text}
use Rattle.mg_reply.specs.Reply.{Answered, new_reply, is_action, is_refusal, last_is_action, with_item, after_put, after_all}
use Rattle.mg_reply.specs.Reply.{marked as marked_long}
use Rattle.mg_text.specs.declared.body.Range.{Range}
use Rattle.mg_text.specs.declared.request.Request.{Request}
use Rattle.mg_kept.specs.KeptReplies.{KeptReply, kept_text, with_reply}
use Rattle.mg_commands.proofs.RunLemmas.{value_cases}
use Rattle.mg_commands.specs.Transaction.{replied}
use Rattle.mg_engine.specs.Gateway.{Gateway}
use Rattle.mg_words.specs.Leads.{Leads}
use Rattle.mg_words.specs.Limits.{reply_limit}
use Rattle.mg_reply.specs.declared.item.Item.{Item}
use Rattle.mg_reply.specs.aids.Width.{TooLongByText, AllItemsAreKept, is_wide, is_too_long}
use Rattle.mg_core.specs.Answer.{with_front, item_replied, mark_after, replied_to, request_replied, run_and_kept, sent_text, without_ranges}
use Rattle.mg_core.specs.aids.Answers.{unless_kept}

-- The error that replaces an overlong reply is itself short enough.
pub refusal_short : (n : ℕ) → n < 2 ^ 32 → length (reply_text n (Fault ReplyTooLong ∷ [])) ≤ 16000
unfolding error_text error_row
refusal_short n small = simp length-append (omega (
  arith,
  length-decimal-le 10 n (omega arith) (omega arith) (omega arith),
  length-decimal-le 3 533 (omega arith) (omega arith) (omega arith),
))

pub ok_from : {T E : Type 0} (r : Result T E) → is_err r ≡ false → IsOk r
ok_from (Ok x) e = refl
ok_from (Err x) e = absurd cc

pub ruleset sending = (refusal_short, ok_from, le-ltb)

-- If the separator and a reply of maximum length fit in the room, the separator alone fits.
pub fits_marks : (n marks room : ℕ) → n + marks ≤ 1 + room → n ≡ 16001 → marks ≤ room
fits_marks n marks room le is = omega (arith, le, is)

pub ruleset one_reply = (fits_marks, length-append, append_assoc)

-- ## A reply is too long by its text alone

abbrev pub writing : List ℕ → World → List ℕ × World
writing text w = (text, w)

picked : (b : Bool) (x y : Answered) (n : ℕ) → x.number ≡ n → y.number ≡ n → (if b then x else y).number ≡ n
picked true x y n p q = p
picked false x y n p q = q

number_kept : (n : ℕ) (r : Answered) (xs : List Item) → r.number ≡ n → (after_all r xs).number ≡ n
number_kept n r [] h = h
number_kept n r (x ∷ xs) h =
    let put = picked (is_action x && r.has_pending) (with_item r x 0)
    (if eqb r.room 0 then marked_long r else with_item r x 1) r.number refl
    (picked (eqb r.room 0) (marked_long r) (with_item r x 1) r.number refl refl) in
    number_kept n (after_put r x) xs (put ∙ h)

abbrev put_by : Answered → Bool → List ℕ
put_by r b = if b then reply_text r.number (Fault ReplyTooLong ∷ []) else reply_text r.number r.items

abbrev sent_by : ℕ → List Item → Bool → List ℕ
sent_by n xs b = if b then reply_text n (Fault ReplyTooLong ∷ []) else reply_text n xs

sent_is : (b : Bool) (n : ℕ) (r : Answered) (xs : List Item) → r.number ≡ n → is_too_long r ≡ b
    → ltb reply_limit (length (reply_text n xs)) ≡ b → (r.is_long ≡ false → r.items ≡ xs) → put_text r ≡ sent_text n xs
sent_is true n r xs number long text there =
    ap (put_by r) long ∙ ap (λ (k : ℕ). reply_text k (Fault ReplyTooLong ∷ [])) number ∙ sym (ap (sent_by n xs) text)
sent_is false n r xs number long text there =
    ap (put_by r) long ∙ ap (λ (k : ℕ). reply_text k r.items) number
    ∙ ap (reply_text n) (there (or_parts r.is_long (ltb reply_limit (length (reply_text r.number r.items))) long).0)
    ∙ sym (ap (sent_by n xs) text)

put_is_sent : TooLongByText → AllItemsAreKept → (n : ℕ) (xs : List Item) → list_all is_wide xs ≡ true
    → (is_refusal xs || last_is_action false xs) ≡ true → put_text (after_all (new_reply n) xs) ≡ sent_text n xs
put_is_sent alone there n xs wide whole =
    sent_is (ltb reply_limit (length (reply_text n xs))) n (after_all (new_reply n) xs) xs
    (number_kept n (new_reply n) xs refl)
    (alone n xs wide whole) refl (there n xs)

-- A request is run, and its reply is written and kept.
pub request_run : TooLongByText → AllItemsAreKept → (source sender : List ℕ) (request : Request) (old new : CoreState)
    (reply : Answered) (before text : List ℕ)
    → ((w : Gateway) → list_all is_wide (replied source request w).items ≡ true) →
    ((w : Gateway) → (is_refusal (replied source request w).items || last_is_action false
    (replied source request w).items) ≡ true) → new.counts ≡ old.counts
    → Leads engine_stands.StandsFor old.engine new.engine
    (λ w next. ((replied source request w).gateway ≡ next) ×
    (reply ≡ after_all (new_reply request.number) (replied source request w).items))
    → new.kept ≡ with_reply (record { sender = sender; number = request.number; text = put_text reply }) old.kept
    → text ≡ before ++ put_text reply → TextGrows old new before text
    (λ w. run_and_kept sender request.number w (replied source request w.gateway))
request_run alone there source sender request old new reply before text wide whole same ran keeps is w h =
    let (next, represents, stands) = ran w.gateway h.gateway in
    let xs = (replied source request w.gateway).items in
    let sent : put_text reply ≡ sent_text request.number xs = ap put_text represents.1 ∙
    put_is_sent alone there request.number xs (wide w.gateway) (whole w.gateway) in
    let kept = λ (l : List ℕ). let r : KeptReply = record { sender = sender; number = request.number; text = l } in r in
    let text_is = sent_text request.number xs in (
      record w { gateway = next; replies = with_reply (kept text_is) w.replies },
      (
        text_is,
        ap (λ (g : Gateway). writing text_is
            (record w { gateway = g; replies = with_reply (kept text_is) w.replies })) represents.0,
        is ∙
            ap (λ (l : List ℕ). before ++ l) sent,
      ),
      record {
        gateway = stands;
        replies = ap (with_reply (kept text_is)) h.replies ∙
            ap (λ (l : List ℕ). with_reply (kept l) old.kept) (sym sent) ∙ sym keeps;
        counts = same ∙ h.counts;
      },
    )

kept_in : (state : CoreState) (w : World) (sender : List ℕ) (n : ℕ) (o : Option (List ℕ)) → StandsFor state w →
    kept_text state.kept sender n ≡ o → kept_text w.replies sender n ≡ o
kept_in state w sender n o h is = ap (λ (l : List KeptReply). kept_text l sender n) h.replies ∙ is

-- A request whose reply is kept is answered with this reply.
pub request_again : (source sender : List ℕ) (request : Request) (state : CoreState) (before reported text : List ℕ) →
    kept_text state.kept sender request.number ≡ Some reported
    → text ≡ before ++ reported → TextGrows state state before text (request_replied source sender request)
request_again source sender request state before reported text kept is w h = (
  w,
  (
    reported,
    ap (λ (o : Option (List ℕ)). unless_kept o source sender request w)
        (kept_in state w sender request.number (Some reported) h kept),
    is,
  ),
  h,
)

-- If no reply to a request is kept, the request is run.
pub request_new : (source sender : List ℕ) (request : Request) (old new : CoreState) (before text : List ℕ) →
    kept_text old.kept sender request.number ≡ None
    → TextGrows old new before text (λ w. run_and_kept sender request.number w (replied source request w.gateway)) →
    TextGrows old new before text (request_replied source sender request)
request_new source sender request old new before text none ran w h =
    let (next, wrote, stands) = ran w h in
    let (out, represents, is) = wrote in (
      next,
      (
        out,
        ap (λ (o : Option (List ℕ)). unless_kept o source sender request w)
            (kept_in old w sender request.number None h none) ∙ represents,
        is,
      ),
      stands,
    )

-- The separator is written in front of the reply.
pub request_put : (source sender mark : List ℕ) (request : Request) (old new : CoreState) (before text : List ℕ)
    → TextGrows old new (before ++ mark) text (request_replied source sender request) →
    TextGrows old new before text (item_replied source sender mark (items.Request request))
request_put source sender mark request old new before text ran w h =
    let (next, wrote, stands) = ran w h in
    let (out, represents, is) = wrote in
    (next, (mark ++ out, ap (with_front mark) represents, is ∙ append_assoc before mark out), stands)

-- An acknowledgement drops the kept replies in its ranges.
pub ranges_taken : (source sender mark : List ℕ) (ranges : List Range) (old new : CoreState) (text : List ℕ) →
    new.engine ≡ old.engine → new.counts ≡ old.counts → new.kept ≡ without_ranges sender ranges old.kept
    → TextGrows old new text text (item_replied source sender mark (items.Acknowledgement ranges))
ranges_taken source sender mark ranges old new text engine counts kept w h = (
  record w { replies = without_ranges sender ranges w.replies },
  ([], refl, sym (append-nil text)),
  record {
    gateway = rw engine h.gateway;
    replies = ap (without_ranges sender ranges) h.replies ∙ sym kept;
    counts = counts ∙ h.counts;
  },
)

-- ## The items of a message

pub is_proper : (source : List ℕ) (xs : List MessageItem) (i : ℕ) (d : MessageItem) → i < length xs →
    are_proper source xs ≡ true → item_is_proper source (get_or xs i d) ≡ true
is_proper source xs i d lt all = value_cases (item_is_proper source (get_or xs i d))
    (λ h. sym all ∙ list_all_at (item_is_proper source) xs i d lt h)

requests_more : (xs : List MessageItem) (x : MessageItem) → requests_in (x ∷ xs) ≡ requests_in (x ∷ []) + requests_in xs
requests_more xs (items.Request r) = refl
requests_more xs (items.Acknowledgement r) = omega arith

-- The requests from index `i` on are those in item `i` and those in the later items.
pub requests_from : (xs : List MessageItem) (i : ℕ) (d : MessageItem) → i < length xs →
    requests_in (drop i xs) ≡ requests_in (get_or xs i d ∷ []) + requests_in (drop (i + 1) xs)
requests_from xs i d lt = ap requests_in (drop_more xs i d lt) ∙ requests_more (drop (i + 1) xs) (get_or xs i d)

-- ## The answer to a message

abbrev pub answering : Option (List ℕ) → World → Option (List ℕ) × World
answering answer w = (answer, w)

-- The loop over items. For each world `w` that the state on entry represents, `f w` is the part already written,
-- followed by `rest` of the current world.
abbrev pub IsUnderWay : CoreState → CoreState → List ℕ → List ℕ → (World → List ℕ × World) →
    (World → List ℕ × World) → Type 0
IsUnderWay entered kept before text f rest = (w : World) → StandsFor entered w → (now : World) × (out : List ℕ) ×
    (f w ≡ with_front out (rest now)) × (text ≡ before ++ out) × StandsFor kept now

item_done : (source sender mark : List ℕ) (xs : List MessageItem) (i : ℕ) (d : MessageItem) (w after : World)
    (out : List ℕ) → i < length xs → item_replied source sender mark (get_or xs i d) w ≡ (out, after) →
    replied_to source sender mark (drop i xs) w ≡
    with_front out (replied_to source sender (mark_after mark (get_or xs i d)) (drop (i + 1) xs) after)
unfolding replied_to
item_done source sender mark xs i d w with_front out lt e = rw (drop_more xs i d lt, e) refl

after_both : (a b : List ℕ) (p : List ℕ × World) → with_front a (with_front b p) ≡ with_front (a ++ b) p
after_both a b p = ap (λ (l : List ℕ). let q : List ℕ × World = (l, p.1) in q) (sym (append_assoc a b p.0))

pub items_more : (source sender mark next : List ℕ) (xs : List MessageItem) (i : ℕ) (x d : MessageItem)
    (entered kept new : CoreState) (before text more : List ℕ) (f : World → List ℕ × World) → i < length xs →
    x ≡ get_or xs i d → next ≡ mark_after mark x
    → IsUnderWay entered kept before text f (replied_to source sender mark (drop i xs)) →
    TextGrows kept new text more (item_replied source sender mark x)
    → IsUnderWay entered new before more f (replied_to source sender next (drop (i + 1) xs))
items_more source sender mark next xs i x d entered kept new before text more f lt is marked inside step w h =
    let (now, out, represents, written, stands) = inside w h in
    let (after, wrote, left) = step now stands in
    let (part, did, grown) = wrote in
    let one = item_done source sender mark xs i d now after part lt
    (ap (λ (y : MessageItem). item_replied source sender mark y now) (sym is) ∙ did) in
    let mark_is : mark_after mark (get_or xs i d) ≡ next = ap (mark_after mark) (sym is) ∙ sym marked in
    let rest = λ (m : List ℕ). with_front (out ++ part) (replied_to source sender m (drop (i + 1) xs) after) in (
      after,
      out ++ part,
      represents ∙ ap (with_front out) one ∙ after_both out part
          (replied_to source sender (mark_after mark (get_or xs i d)) (drop (i + 1) xs) after) ∙ ap rest mark_is,
      grown ∙ ap (λ (l : List ℕ). l ++ part) written ∙ append_assoc before out part,
      left,
    )

no_items : (source sender mark : List ℕ) (xs : List MessageItem) (i : ℕ) (w : World) → length xs ≤ i →
    replied_to source sender mark (drop i xs) w ≡ ([], w)
unfolding replied_to
no_items source sender mark xs i w le = rw (drop_all i xs le) refl

pub items_end : (source sender mark : List ℕ) (xs : List MessageItem) (i : ℕ) (entered kept : CoreState)
    (before text : List ℕ) (f : World → List ℕ × World) → length xs ≤ i →
    IsUnderWay entered kept before text f (replied_to source sender mark (drop i xs)) →
    TextGrows entered kept before text f
items_end source sender mark xs i entered kept before text f le inside w h =
    let (now, out, represents, written, stands) = inside w h in (
      now,
      (
        out,
        represents ∙ ap (with_front out) (no_items source sender mark xs i now le) ∙
            ap (λ (l : List ℕ). let q : List ℕ × World = (l, now) in q) (append-nil out),
        written,
      ),
      stands,
    )

pub ruleset replying = (is_proper, requests_from, length-append)
