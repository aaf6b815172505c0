-- After one more moment, the stored intervals are those that last, and the removed ones have ended.
use Rattle.std.proofs.Common.{◌≡◌, ℕ, ◌<◌, not, Bool, true, false, cond, List, [], ◌∷◌, length, map, Option, Some, None, refl, sym, ap, subst, ◌∙◌, inl, inr, arith}
use Rattle.std.specs.Prelude.{filter, find}
use Rattle.std.specs.Option.{option_map, option_map_or}
use Rattle.std.proofs.lemmas.Bool.{cases_Bool, true≢false}
use Rattle.mg_heard.specs.Intervals.{Interval, ending, interval_of, lasting, newest, since}
use Rattle.mg_heard.specs.OpenFlow.{has, is_same}
use Rattle.mg_heard.specs.aids.Opening.{AreLasting, IsRising, beginning_among, beginning_at, continued, ended_at, flows_of, key_of, still_open, without_flows}
use Rattle.mg_heard.specs.declared.moment.Moment.{Moment}
use Rattle.mg_heard.specs.declared.open_flow.OpenFlow.{OpenFlow}
use Rattle.mg_heard.specs.declared.open_interval.OpenInterval.{OpenInterval}
use Rattle.mg_heard.proofs.IntervalLemmas.{since_more}
use Rattle.mg_heard.proofs.Members.{In, all_from_pairs, from_map, in_map, pairs_from_all, pairs_map}
use Rattle.mg_heard.proofs.SameLemmas.{has_from_in, in_from_has, same}

-- ## Lists

map_agree : {X Y : Type 0} (f g : X → Y) (xs : List X) → ((x : X) → In x xs → f x ≡ g x) → map f xs ≡ map g xs
map_agree f g [] h = refl
map_agree f g (x ∷ xs) h = λ i. h x (inl refl) i ∷ map_agree f g xs (λ y j. h y (inr j)) i

map_both : {X Y Z : Type 0} (g : Y → Z) (f : X → Y) (xs : List X) → map g (map f xs) ≡ map (λ x. g (f x)) xs
map_both g f [] = refl
map_both g f (x ∷ xs) = λ i. g (f x) ∷ map_both g f xs i

filter_first : {X Y : Type 0} (f : X → Y) (b : Bool) (x : X) (xs : List X) (ys : List Y) → ys ≡ map f xs →
    cond b (f x ∷ ys) ys ≡ map f (cond b (x ∷ xs) xs)
filter_first f true x xs ys h = λ i. f x ∷ h i
filter_first f false x xs ys h = h

filter_both : {X Y : Type 0} (q : Y → Bool) (f : X → Y) (xs : List X) →
    filter q (map f xs) ≡ map f (filter (λ x. q (f x)) xs)
filter_both q f [] = refl
filter_both q f (x ∷ xs) = filter_first f (q (f x)) x (filter (λ x. q (f x)) xs) (filter q (map f xs)) (filter_both q f xs)

-- ## An interval continues an earlier one

begun_at : OpenInterval → Option Moment → OpenInterval
begun_at x o = option_map_or (λ first. record x { first = first }) o x

same_flow_at : (x : OpenInterval) (o : Option Moment) → (begun_at x o).flow ≡ x.flow
unfolding begun_at
same_flow_at x None = refl
same_flow_at x (Some first) = refl

continued_flow : (earlier : List OpenInterval) (x : OpenInterval) → (continued earlier x).flow ≡ x.flow
unfolding begun_at
continued_flow earlier x = same_flow_at x (beginning_among earlier x.flow)

pub new_flows : (earlier : List OpenInterval) (now : Moment) (next : List OpenFlow) →
    flows_of (map (continued earlier) (map (beginning_at now) next)) ≡ next
new_flows earlier now [] = refl
new_flows earlier now (x ∷ next) =
    λ i. continued_flow earlier (beginning_at now x) i ∷ new_flows earlier now next i

pub new_rising : (earlier xs : List OpenInterval) → IsRising xs → IsRising (map (continued earlier) xs)
new_rising earlier xs h =
    let R = λ (x later : OpenInterval). key_of x.flow < key_of later.flow in
    all_from_pairs R (map (continued earlier) xs) (pairs_map R R (continued earlier) xs
    (λ x y less.
    let a = ap key_of (continued_flow earlier x) in
    let b = ap key_of (continued_flow earlier y) in
    omega arith)
    (pairs_from_all R xs h))

-- ## When a flow began

record Found (xs : List OpenInterval) (flow : OpenFlow) (first : Moment) : Type 0 where
  y : OpenInterval
  among : In y xs
  same : y.flow ≡ flow
  begins : y.first ≡ first

abbrev FoundOrNot : List OpenInterval → OpenFlow → Option Moment → Type 0
FoundOrNot xs flow None = (y : OpenInterval) → In y xs → y.flow ≡ flow → ⊥
FoundOrNot xs flow (Some first) = Found xs flow first

found_first : (flow : OpenFlow) (x : OpenInterval) (xs : List OpenInterval) (b : Bool) → is_same flow x.flow ≡ b →
    (o : Option OpenInterval) → FoundOrNot xs flow (option_map (λ x. x.first) o) →
    FoundOrNot (x ∷ xs) flow (option_map (λ x. x.first) (cond b (Some x) o))
found_first flow x xs true e o h =
    record { y = x; among = inl refl; same = sym ((same flow x.flow).0 e); begins = refl }
found_first flow x xs false e (Some z) h =
    record { y = h.y; among = inr h.among; same = h.same; begins = h.begins }
found_first flow x xs false e None h = λ y i is. not_there y i is
  where
    not_there : (y : OpenInterval) → In y (x ∷ xs) → y.flow ≡ flow → ⊥
    not_there y (inl k) is =
        true≢false (sym ((same flow x.flow).1 (sym is ∙ ap (λ (z : OpenInterval). z.flow) k)) ∙ e)
    not_there y (inr k) is = h y k is

found_or_not : (flow : OpenFlow) (xs : List OpenInterval) → FoundOrNot xs flow (beginning_among xs flow)
found_or_not flow [] = λ y i is. i
found_or_not flow (x ∷ xs) = found_first flow x xs (is_same flow x.flow) refl (find (λ x. is_same flow x.flow) xs)
    (found_or_not flow xs)

since_none : (past : List (List OpenFlow)) (x : OpenFlow) → has (newest past) x ≡ false → since past x ≡ length past
unfolding since
since_none [] x e = refl
since_none (flows ∷ older) x e = rw e (omega arith)

-- A stored interval began at the tick since which its flow has been open.
began_since : (past : List (List OpenFlow)) (old : List OpenInterval) (y : OpenInterval) →
    map still_open old ≡ lasting past → In y old → y.first.tick ≡ since past y.flow
began_since past old y h i =
    let (x, j, e) = from_map (interval_of past None) (still_open y) (newest past)
    (subst (λ (l : List Interval). In (still_open y) l) h (in_map still_open y old i)) in
    ap (λ (z : Interval). z.first) e ∙ ap (since past) (sym (ap (λ (z : Interval). z.flow) e))

not_newest : (past : List (List OpenFlow)) (old : List OpenInterval) (x : OpenFlow) → map still_open old ≡ lasting past →
    ((y : OpenInterval) → In y old → y.flow ≡ x → ⊥) → has (newest past) x ≡ true → ⊥
not_newest past old x h none e =
    let (y, j, k) = from_map still_open (interval_of past None x) old
    (subst (λ (l : List Interval). In (interval_of past None x) l) (sym h)
    (in_map (interval_of past None) x (newest past) (in_from_has (newest past) x e))) in
    none y j (sym (ap (λ (z : Interval). z.flow) k))

tick_of : (past : List (List OpenFlow)) (old : List OpenInterval) (now : Moment) (x : OpenFlow) (o : Option Moment) →
    map still_open old ≡ lasting past → now.tick ≡ length past → FoundOrNot old x o →
    (begun_at (beginning_at now x) o).first.tick ≡ since past x
unfolding begun_at
tick_of past old now x (Some first) h tick f =
    ap (λ (m : Moment). m.tick) (sym f.begins) ∙ began_since past old f.y h f.among ∙ ap (since past) f.same
tick_of past old now x None h tick none = elim (cases_Bool (has (newest past) x)) [
  | inl e ↦ absurd (not_newest past old x h none e)
  | inr e ↦ tick ∙ sym (since_none past x e)
]

-- ## The intervals that last

one_lasts : (past : List (List OpenFlow)) (old : List OpenInterval) (now : Moment) (next : List OpenFlow) (x : OpenFlow) →
    map still_open old ≡ lasting past → now.tick ≡ length past → In x next →
    still_open (continued old (beginning_at now x)) ≡ interval_of (next ∷ past) None x
unfolding begun_at
one_lasts past old now next x h tick i =
    let flow = continued_flow old (beginning_at now x) in
    let first = tick_of past old now x (beginning_among old x) h tick (found_or_not x old)
    ∙ sym (since_more next past x (has_from_in next x i)) in
    λ j. record { flow = flow j; first = first j; end = None }

new_last : (past : List (List OpenFlow)) (old : List OpenInterval) (now : Moment) (next : List OpenFlow) →
    map still_open old ≡ lasting past → now.tick ≡ length past →
    map still_open (map (continued old) (map (beginning_at now) next)) ≡ lasting (next ∷ past)
new_last past old now next h tick =
    map_both still_open (continued old) (map (beginning_at now) next)
    ∙ map_both (λ x. still_open (continued old x)) (beginning_at now) next
    ∙ map_agree (λ x. still_open (continued old (beginning_at now x))) (interval_of (next ∷ past) None) next
    (λ x i. one_lasts past old now next x h tick i)

-- ## The intervals that have ended

with_end : ℕ → Interval → Interval
with_end tick y = record y { end = Some tick }

rest_ended : (past : List (List OpenFlow)) (old : List OpenInterval) (tick : ℕ) (next : List OpenFlow) →
    map still_open old ≡ lasting past → tick ≡ length past →
    map (ended_at tick) (without_flows next old) ≡ ending past next
unfolding with_end
rest_ended past old tick next h e =
    let q = λ (x : OpenFlow). not (has next x) in
    let r = λ (y : Interval). q y.flow in
    sym (map_both (with_end tick) still_open (without_flows next old))
    ∙ ap (map (with_end tick)) (sym (filter_both r still_open old) ∙ ap (filter r) h
    ∙ filter_both r (interval_of past None) (newest past))
    ∙ map_both (with_end tick) (interval_of past None) (filter q (newest past))
    ∙ ap (λ (n : ℕ). map (interval_of past (Some n)) (filter q (newest past))) e

-- ## One more moment

pub advanced : (past : List (List OpenFlow)) (now : Moment) (next : List OpenFlow)
    (old filled new ended : List OpenInterval) → now.tick ≡ length past → AreLasting past old →
    filled ≡ map (beginning_at now) next → IsRising filled → (IsRising filled → IsRising old →
    new ≡ map (continued old) filled) → (IsRising old → IsRising new → ended ≡ without_flows (flows_of new) old) →
    AreLasting (next ∷ past) new × (map (ended_at now.tick) ended ≡ ending past next)
advanced past now next old filled new ended tick (up, lasts) fills rising continues removes =
    let made = continues rising up in
    let whole = made ∙ ap (map (continued old)) fills in
    let risen = subst IsRising (sym made) (new_rising old filled rising) in
    let flows = ap flows_of whole ∙ new_flows old now next in
    let left = removes up risen ∙ ap (λ (l : List OpenFlow). without_flows l old) flows in (
      (risen, ap (map still_open) whole ∙ new_last past old now next lasts tick),
      ap (map (ended_at now.tick)) left ∙ rest_ended past old now.tick next lasts tick,
    )
