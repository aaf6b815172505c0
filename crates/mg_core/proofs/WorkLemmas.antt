-- The cost of the edits of a control datagram.
use Rattle.std.proofs.Common.{◌≡◌, ℕ, ◌+◌, ◌*◌, ◌<◌, ◌≤◌, List, [], ◌∷◌, length, get_or, drop, Option, None, refl, sym, ap, subst, ◌∙◌, arith}
use Rattle.std.proofs.lemmas.List.{drop_more, drop_all}
use Rattle.mg_kept.specs.KeptReplies.{KeptReply, kept_text}
use Rattle.mg_text.specs.declared.body.MessageItem.{MessageItem}
use Rattle.mg_text.specs.declared.body.MessageItem.TheVariants as items
use Rattle.mg_text.specs.declared.request.Request.{Request}
use Rattle.mg_engine.specs.Work.{RisesAtMost}
use Rattle.mg_engine.proofs.WorkLemmas.{rises_twice, stays}
use Rattle.mg_commands.specs.Transaction.{replied}
use Rattle.mg_commands.specs.Work.{edits_reported}
use Rattle.mg_core.specs.declared.state.CoreState.{CoreState}
use Rattle.mg_core.specs.Answer.{item_replied}
use Rattle.mg_core.specs.World.{World}
use Rattle.mg_core.specs.aids.Stands.{StandsFor}
use Rattle.mg_core.specs.Work.{edits_by_item, edits_by_items, edits_unless_kept}
use Rattle.mg_core.specs.aids.Steps.{TextGrows}

-- In each world that the old state represents, the work counter increased by at most four for each edit.
abbrev pub IsPaid : CoreState → CoreState → (World → ℕ) → Type 0
IsPaid old new edits = (w : World) → StandsFor old w →
    RisesAtMost (4 * edits w) old.engine.sums.work new.engine.sums.work

abbrev edits_of : List ℕ → Request → Option (List ℕ) → World → ℕ
edits_of source request kept w = edits_unless_kept kept (replied source request w.gateway).items

kept_in : (state : CoreState) (w : World) (sender : List ℕ) (n : ℕ) (o : Option (List ℕ)) → StandsFor state w →
    kept_text state.kept sender n ≡ o → o ≡ kept_text w.replies sender n
kept_in state w sender n o h is = sym is ∙ ap (λ (l : List KeptReply). kept_text l sender n) (sym h.replies)

-- If no reply to a request is kept, the request costs its edits.
pub request_paid : (source sender : List ℕ) (request : Request) (old new : CoreState) →
    kept_text old.kept sender request.number ≡ None
    → IsPaid old new (λ w. edits_reported (replied source request w.gateway).items) →
    IsPaid old new (edits_by_item source sender (items.Request request))
request_paid source sender request old new none paid w h =
    subst (λ (o : Option (List ℕ)). RisesAtMost (4 * edits_of source request o w) old.engine.sums.work
    new.engine.sums.work) (kept_in old w sender request.number None h none) (paid w h)

-- If the work counter is unchanged, any number of edits is paid for.
pub nothing_paid : (old new : CoreState) (edits : World → ℕ) → new.engine.sums.work ≡ old.engine.sums.work →
    IsPaid old new edits
nothing_paid old new edits same w h = stays (4 * edits w) old.engine.sums.work new.engine.sums.work same

-- ## The loop over items

-- The invariant of the loop: in each world that the state on entry represents, the edits done so far are paid for, and
-- `rest` counts the remaining edits.
abbrev pub IsPaidSoFar : CoreState → CoreState → (World → ℕ) → (World → ℕ) → Type 0
IsPaidSoFar entered kept f rest = (w : World) → StandsFor entered w → (now : World) × (done : ℕ) ×
    (f w ≡ done + rest now) × RisesAtMost (4 * done) entered.engine.sums.work kept.engine.sums.work × StandsFor kept now

-- The world after an item does not depend on the separator before its reply.
after_item : (source sender mark : List ℕ) (x : MessageItem) (w : World) →
    (item_replied source sender mark x w).1 ≡ (item_replied source sender [] x w).1
after_item source sender mark (items.Request request) w = refl
after_item source sender mark (items.Acknowledgement ranges) w = refl

next_item : (source sender mark : List ℕ) (xs : List MessageItem) (i : ℕ) (x d : MessageItem) (w next : World)
    (out : List ℕ) → i < length xs → x ≡ get_or xs i d → item_replied source sender mark x w ≡ (out, next)
    → edits_by_items source sender (drop i xs) w ≡ edits_by_item source sender x w +
    edits_by_items source sender (drop (i + 1) xs) next
unfolding edits_by_items
next_item source sender mark xs i x d w next out lt is did =
    let rest = drop (i + 1) xs in
    let left = sym (after_item source sender mark x w) ∙ ap (λ (p : List ℕ × World). p.1) did in
    ap (λ (ys : List MessageItem). edits_by_items source sender ys w)
    (drop_more xs i d lt ∙ ap (λ (y : MessageItem). y ∷ rest) (sym is))
    ∙ ap (λ (v : World). edits_by_item source sender x w + edits_by_items source sender rest v) left

pub one_more : (source sender mark : List ℕ) (xs : List MessageItem) (i : ℕ) (x d : MessageItem)
    (entered kept new : CoreState) (text more : List ℕ) (f : World → ℕ) → i < length xs → x ≡ get_or xs i d
    → IsPaidSoFar entered kept f (edits_by_items source sender (drop i xs)) →
    TextGrows kept new text more (item_replied source sender mark x) → IsPaid kept new (edits_by_item source sender x)
    → IsPaidSoFar entered new f (edits_by_items source sender (drop (i + 1) xs))
one_more source sender mark xs i x d entered kept new text more f lt is inside step paid w h =
    let (now, done, counted, rises, stands) = inside w h in
    let (next, wrote, left) = step now stands in
    let (out, did, grown) = wrote in
    let one = edits_by_item source sender x now in
    let rest = edits_by_items source sender (drop (i + 1) xs) next in
    let split = next_item source sender mark xs i x d now next out lt is did in (
      next,
      done + one,
      omega (arith, counted, split),
      rises_twice (4 * done) (4 * one) (4 * (done + one)) entered.engine.sums.work kept.engine.sums.work
          new.engine.sums.work (omega arith) rises (paid now stands),
      left,
    )

none_left : (source sender : List ℕ) (xs : List MessageItem) (i : ℕ) (w : World) → length xs ≤ i →
    edits_by_items source sender (drop i xs) w ≡ 0
unfolding edits_by_items
none_left source sender xs i w le = rw (drop_all i xs le) refl

pub all_paid : (source sender : List ℕ) (xs : List MessageItem) (i : ℕ) (entered kept : CoreState) (f : World → ℕ) →
    length xs ≤ i → IsPaidSoFar entered kept f (edits_by_items source sender (drop i xs)) → IsPaid entered kept f
all_paid source sender xs i entered kept f le inside w h =
    let (now, done, counted, rises, stands) = inside w h in
    subst (λ (n : ℕ). RisesAtMost (4 * n) entered.engine.sums.work kept.engine.sums.work)
    (omega (arith, counted, none_left source sender xs i now le)) rises
