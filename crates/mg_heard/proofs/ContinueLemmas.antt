-- A walk through two lists of intervals in step.
use Rattle.std.proofs.Common.{◌≡◌, ℕ, ◌+◌, ◌<◌, ◌≤◌, not, ◌||◌, Bool, true, false, cond, List, [], ◌∷◌, ◌++◌, length, get_or, set, take, drop, map, Option, Some, None, refl, sym, ap, subst, ◌∙◌, arith}
use Rattle.std.specs.Prelude.{find, is_some}
use Rattle.std.specs.Option.{option_map, option_map_or}
use Rattle.std.proofs.lemmas.List.{append-nil, drop_all, drop-set-lt, drop_more, get_or_default, map_push, take_all, take_more, take_more_set}
use Rattle.std.proofs.lemmas.List.Elements.{All-weaker}
use Rattle.std.proofs.lemmas.List.Filters.{FiltersInPlace, FiltersInPlace-more_no, FiltersInPlace-more_set}
use Rattle.mg_heard.specs.OpenFlow.{has, is_same}
use Rattle.mg_heard.specs.aids.Opening.{AreBefore, IsRising, beginning_among, continued, flows_of, key_of}
use Rattle.mg_heard.specs.declared.moment.Moment.{Moment}
use Rattle.mg_heard.specs.declared.open_flow.OpenFlow.{OpenFlow}
use Rattle.mg_heard.specs.declared.open_interval.OpenInterval.{OpenInterval}

-- All pairs in `xs` from `place` on come after the first `from` pairs of `other`.
abbrev pub HasPassed : List OpenInterval → List OpenInterval → ℕ → ℕ → Type 0
HasPassed other xs from place = (k : ℕ) (d : OpenInterval) → place ≤ k → k < length xs →
    AreBefore (get_or xs k d).flow (take from other)

passed_more : (other xs : List OpenInterval) (from place : ℕ) (d : OpenInterval) → IsRising xs → place < length xs →
    AreBefore (get_or xs place d).flow (take from other) → HasPassed other xs from (place + 1)
passed_more other xs from place d rising within before k e above below =
    All-weaker (λ y. key_of y.flow < key_of (get_or xs place d).flow) (λ y. key_of y.flow < key_of (get_or xs k e).flow)
    (λ y less.
    let at = ap (λ (u : OpenInterval). key_of u.flow) (get_or_default xs place d e within) in
    let more = rising place k e (omega arith) below in
    omega arith)
    (take from other) before

-- ## Each interval continues the earlier one of its flow

pub record Continues (earlier old new : List OpenInterval) (from place : ℕ) : Type 0 where
  pub front : take place new ≡ map (continued earlier) (take place old)
  pub rest : drop place new ≡ drop place old
  pub passed : HasPassed earlier old from place

-- If the elements from `place` on are unchanged, so are the element at `place` and the elements after it.
rest_both : (old new : List OpenInterval) (place : ℕ) (d : OpenInterval) → place < length new → place < length old →
    drop place new ≡ drop place old →
    get_or new place d ∷ drop (place + 1) new ≡ get_or old place d ∷ drop (place + 1) old
rest_both old new place d a b e = sym (drop_more new place d a) ∙ e ∙ drop_more old place d b

pub rest_at : (old new : List OpenInterval) (place : ℕ) (d : OpenInterval) → place < length new → place < length old →
    drop place new ≡ drop place old → get_or new place d ≡ get_or old place d
rest_at old new place d a b e = let both = rest_both old new place d a b e in cc both

rest_more : (old new : List OpenInterval) (place : ℕ) (d : OpenInterval) → place < length new → place < length old →
    drop place new ≡ drop place old → drop (place + 1) new ≡ drop (place + 1) old
rest_more old new place d a b e = let both = rest_both old new place d a b e in cc both

-- The pair at `place` comes after the first `from` pairs of `other`.
pub before_next : (other old new : List OpenInterval) (from place : ℕ) (d : OpenInterval) → length new ≡ length old →
    place < length new → drop place new ≡ drop place old → HasPassed other old from place →
    AreBefore (get_or new place d).flow (take from other)
before_next other old new from place d long within rest passed =
    subst (λ (x : OpenInterval). AreBefore x.flow (take from other))
    (sym (rest_at old new place d within (omega arith) rest)) (passed place d (omega arith) (omega arith))

passed_next : (other old new : List OpenInterval) (next place : ℕ) (d : OpenInterval) → IsRising old →
    length new ≡ length old → place < length new → drop place new ≡ drop place old →
    AreBefore (get_or new place d).flow (take next other) → HasPassed other old next (place + 1)
passed_next other old new next place d rising long within rest before =
    passed_more other old next place d rising (omega arith)
    (subst (λ (x : OpenInterval). AreBefore x.flow (take next other))
    (rest_at old new place d within (omega arith) rest) before)

pub continues_start : (earlier old : List OpenInterval) → Continues earlier old old 0 0
continues_start earlier old = record {
  front = refl;
  rest = refl;
  passed = λ k d above below j e within. absurd (omega arith);
}

-- After a step that stores `y`, the first `place + 1` intervals are continued.
front_more : (earlier old new : List OpenInterval) (place : ℕ) (d y : OpenInterval) (front : List OpenInterval) →
    length new ≡ length old → place < length new → drop place new ≡ drop place old →
    front ≡ map (continued earlier) (take place old) → continued earlier (get_or new place d) ≡ y →
    front ++ y ∷ [] ≡ map (continued earlier) (take (place + 1) old)
front_more earlier old new place d y front long within rest is e =
    let was = rest_at old new place d within (omega arith) rest in
    let there : place < length old = omega arith in
    ap (λ (l : List OpenInterval). l ++ y ∷ []) is
    ∙ ap (λ (z : OpenInterval). map (continued earlier) (take place old) ++ z ∷ []) (sym e)
    ∙ sym (map_push (continued earlier) (take place old) (get_or new place d))
    ∙ ap (λ (z : OpenInterval). map (continued earlier) (take place old ++ z ∷ [])) was
    ∙ ap (map (continued earlier)) (sym (take_more old place d there))

began : OpenInterval → Option Moment → OpenInterval
began x o = option_map_or (λ first. record x { first = first }) o x

pub continues_same : (earlier old new : List OpenInterval) (from next place : ℕ) (d : OpenInterval) → IsRising old →
    length new ≡ length old → place < length new → AreBefore (get_or new place d).flow (take next earlier) →
    beginning_among earlier (get_or new place d).flow ≡ None → Continues earlier old new from place →
    Continues earlier old new next (place + 1)
unfolding began
continues_same earlier old new from next place d rising long within before none h =
    let x = get_or new place d in
    record {
      front = take_more new place d within
          ∙ front_more earlier old new place d x (take place new) long within h.rest h.front (ap (began x) none);
      rest = rest_more old new place d within (omega arith) h.rest;
      passed = passed_next earlier old new next place d rising long within h.rest before;
    }

pub continues_first : (earlier old new changed : List OpenInterval) (from next place : ℕ) (d : OpenInterval)
    (first : Moment) → IsRising old → length new ≡ length old → place < length new →
    AreBefore (get_or new place d).flow (take next earlier) →
    beginning_among earlier (get_or new place d).flow ≡ Some first →
    changed ≡ set new place (record { flow = (get_or new place d).flow; first = first }) →
    Continues earlier old new from place → Continues earlier old changed next (place + 1)
unfolding began
continues_first earlier old new changed from next place d first rising long within before some is h =
    let x = get_or new place d in
    let y : OpenInterval = record { flow = x.flow; first = first } in
    subst (λ (l : List OpenInterval). Continues earlier old l next (place + 1)) (sym is) (record {
      front = take_more_set new place y within
          ∙ front_more earlier old new place d y (take place new) long within h.rest h.front (ap (began x) some);
      rest = drop-set-lt (place + 1) new place y (omega arith) ∙ rest_more old new place d within (omega arith) h.rest;
      passed = passed_next earlier old new next place d rising long within h.rest before;
    })

pub continues_all : (earlier old new : List OpenInterval) (from place : ℕ) → length new ≡ length old →
    length new ≤ place → Continues earlier old new from place → new ≡ map (continued earlier) old
continues_all earlier old new from place long past h =
    sym (take_all place new past) ∙ h.front ∙ ap (map (continued earlier)) (take_all place old (omega arith))

-- ## The intervals that have ended

begun_among : (flow : OpenFlow) (xs : List OpenInterval) (o : Option OpenInterval) → find (λ x. is_same flow x.flow) xs ≡ o →
    is_some (option_map (λ x. x.first) o) ≡ is_some o
begun_among flow xs None e = refl
begun_among flow xs (Some x) e = refl

found_among : (flow : OpenFlow) (xs : List OpenInterval) →
    is_some (find (λ x. is_same flow x.flow) xs) ≡ has (flows_of xs) flow
found_among flow [] = refl
found_among flow (x ∷ xs) = found_first (is_same flow x.flow) x (find (λ x. is_same flow x.flow) xs) (has (flows_of xs) flow)
    (found_among flow xs)
  where
    found_first : (b : Bool) (x : OpenInterval) (o : Option OpenInterval) (c : Bool) → is_some o ≡ c →
        is_some (cond b (Some x) o) ≡ b || c
    found_first true x o c h = refl
    found_first false x o c h = h

-- A flow has a beginning among the intervals if and only if it is one of their flows.
pub has_begun : (flow : OpenFlow) (xs : List OpenInterval) → is_some (beginning_among xs flow) ≡ has (flows_of xs) flow
has_begun flow xs = begun_among flow xs (find (λ x. is_same flow x.flow) xs) refl ∙ found_among flow xs

abbrev HasEnded : List OpenInterval → OpenInterval → Bool
HasEnded next x = not (has (flows_of next) x.flow)

pub record Keeps (next old new : List OpenInterval) (from kept place : ℕ) : Type 0 where
  pub filters : FiltersInPlace (HasEnded next) old new kept place
  pub passed : HasPassed next old from place

pub keeps_start : (next old : List OpenInterval) → Keeps next old old 0 0 0
keeps_start next old = record {
  filters = record { front = refl; rest = refl; behind = omega arith; within = omega arith; long = refl };
  passed = λ k d above below j e within. absurd (omega arith);
}

pub keeps_not : (next old new : List OpenInterval) (from further kept place : ℕ) (d : OpenInterval) → IsRising old →
    place < length new → AreBefore (get_or new place d).flow (take further next) →
    is_some (beginning_among next (get_or new place d).flow) ≡ true → Keeps next old new from kept place →
    Keeps next old new further kept (place + 1)
keeps_not next old new from further kept place d rising within before some h =
    let x = get_or new place d in
    record {
      filters = FiltersInPlace-more_no h.filters within (ap not (sym (has_begun x.flow next) ∙ some))
          (get_or_default new place d x within);
      passed = passed_next next old new further place d rising h.filters.long within h.filters.rest before;
    }

pub keeps_one : (next old new changed : List OpenInterval) (from further kept place : ℕ) (d : OpenInterval) →
    IsRising old → place < length new → AreBefore (get_or new place d).flow (take further next) →
    is_some (beginning_among next (get_or new place d).flow) ≡ false → changed ≡ set new kept (get_or new place d) →
    Keeps next old new from kept place → Keeps next old changed further (kept + 1) (place + 1)
keeps_one next old new changed from further kept place d rising within before none is h =
    let x = get_or new place d in
    subst (λ (l : List OpenInterval). Keeps next old l further (kept + 1) (place + 1)) (sym is) (record {
      filters = FiltersInPlace-more_set h.filters within (ap not (sym (has_begun x.flow next) ∙ none))
          (get_or_default new place d x within);
      passed = passed_next next old new further place d rising h.filters.long within h.filters.rest before;
    })

-- A dummy interval for a place that doesn't exist.
abbrev pub unused : OpenInterval
unused = record {
  flow = record { listener = 0; talker = 0; context = 0; listener_at = None; talker_at = None };
  first = record { tick = 0; date = None };
}

-- If a call writes as many elements as there are places, the places contain exactly these elements.
pub written : {X : Type 0} (n : ℕ) (items new : List X) → n ≡ length items → length new ≡ length items →
    take n (new ++ drop (length new) items) ≡ new
written n items new e long =
    ap (take n) (ap (λ l. new ++ l) (drop_all (length new) items (omega arith)) ∙ append-nil new)
    ∙ take_all n new (omega arith)
