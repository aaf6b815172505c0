-- If no moment has a pair twice, no pair is reported twice for a tick.
use Rattle.std.proofs.Common.{◌≡◌, ℕ, ◌-◌, ◌≤◌, not, List, [], ◌∷◌, length, map, Option, Some, None, sym, ap, subst, ◌∙◌, inl, inr, arith}
use Rattle.std.specs.Prelude.{IsSomeAnd, filter}
use Rattle.std.proofs.lemmas.Bool.{cases_lt}
use Rattle.mg_heard.specs.declared.open_flow.OpenFlow.{OpenFlow}
use Rattle.mg_heard.specs.Intervals.{Interval, ended, ending, interval_of, intervals, lasting, newest, since}
use Rattle.mg_heard.specs.Maximal.{IsTellingOnce}
use Rattle.mg_heard.specs.OpenFlow.{has}
use Rattle.mg_heard.proofs.IntervalLemmas.{HasEnded, IsOpen, has_ended, is_since, open_before}
use Rattle.mg_heard.proofs.Members.{In, Pairs, from_filter, from_map, pairs_append, pairs_filter, pairs_map}

abbrev pub IsSamePair : OpenFlow → OpenFlow → Type 0
IsSamePair x y = (x.talker ≡ y.talker) × (x.listener ≡ y.listener)

abbrev pub AreApart : OpenFlow → OpenFlow → Type 0
AreApart x y = IsSamePair x y → ⊥

abbrev pub AreDistinct : List (List OpenFlow) → Type 0
AreDistinct [] = Unit {0}
AreDistinct (flows ∷ older) = Pairs AreApart flows × AreDistinct older

one_in : (flows : List OpenFlow) (x y : OpenFlow) → Pairs AreApart flows → In x flows → In y flows →
    IsSamePair x y → x ≡ y
one_in [] x y h i j same = absurd i
one_in (z ∷ flows) x y h (inl i) (inl j) same = i ∙ sym j
one_in (z ∷ flows) x y h (inl i) (inr j) same = absurd (h.0 y j (
  ap (λ (f : OpenFlow). f.talker) (sym i) ∙ same.0,
  ap (λ (f : OpenFlow). f.listener) (sym i) ∙ same.1,
))
one_in (z ∷ flows) x y h (inr i) (inl j) same = absurd (h.0 x i (
  ap (λ (f : OpenFlow). f.talker) (sym j) ∙ sym same.0,
  ap (λ (f : OpenFlow). f.listener) (sym j) ∙ sym same.1,
))
one_in (z ∷ flows) x y h (inr i) (inr j) same = one_in flows x y h.1 i j same

one_open : (past : List (List OpenFlow)) (k : ℕ) (x y : OpenFlow) → AreDistinct past → IsOpen past k x →
    IsOpen past k y → IsSamePair x y → x ≡ y
one_open [] k x y h i j same = absurd i
one_open (flows ∷ older) k x y h (inl i) (inl j) same = one_in flows x y h.0 i.1 j.1 same
one_open (flows ∷ older) k x y h (inl i) (inr j) same =
    let e = i.0 in let below = open_before older k y j in absurd (omega arith)
one_open (flows ∷ older) k x y h (inr i) (inl j) same =
    let e = j.0 in let below = open_before older k x i in absurd (omega arith)
one_open (flows ∷ older) k x y h (inr i) (inr j) same = one_open older k x y h.1 i j same

ends_before : (past : List (List OpenFlow)) (i : Interval) (end : ℕ) (y : OpenFlow) → AreDistinct past →
    HasEnded past i end → In y (newest past) → IsSamePair i.flow y → end ≤ since past y
ends_before past i end y distinct h j same = elim (cases_lt (since past y) end) [
  | inr more ↦ more
  | inl less ↦
      let s = is_since past y in
      let some = h.some in
      let within = h.within in
      let one = one_open past (end - 1) i.flow y distinct (h.open_since (end - 1) (omega arith) (omega arith))
      (s.open_since (end - 1) (omega arith) (omega arith)) same in
      absurd (h.not_after (subst (λ (x : OpenFlow). IsOpen past end x) (sym one)
      (s.open_since end (omega arith) within)))
]

before_next : (past : List (List OpenFlow)) (i : Interval) (y : OpenFlow) → AreDistinct past → In i (ended past) →
    In y (newest past) → IsSamePair i.flow y → IsSomeAnd i.end (λ end. end ≤ since past y)
before_next past i y distinct told j same =
    let (end, h) = has_ended past i told in
    subst (λ (o : Option ℕ). IsSomeAnd o (λ end. end ≤ since past y)) (sym h.ends)
    (ends_before past i end y distinct h j same)

newest_apart : (past : List (List OpenFlow)) → AreDistinct past → Pairs AreApart (newest past)
newest_apart [] h = tt
newest_apart (flows ∷ older) h = h.0

told_once : (past : List (List OpenFlow)) (end : Option ℕ) (flows : List OpenFlow) → Pairs AreApart flows →
    Pairs IsTellingOnce (map (interval_of past end) flows)
told_once past end flows h = pairs_map AreApart IsTellingOnce (interval_of past end) flows
    (λ x y apart same. absurd (apart same)) h

ended_once : (past : List (List OpenFlow)) → AreDistinct past → Pairs IsTellingOnce (ended past)
unfolding ended
ended_once [] h = tt
ended_once (flows ∷ older) h = pairs_append IsTellingOnce (ended older) (ending older flows) (ended_once older h.1)
    (told_once older (Some (length older)) (filter (λ x. not (has flows x)) (newest older))
    (pairs_filter AreApart (λ x. not (has flows x)) (newest older) (newest_apart older h.1)))
    (λ x y i j.
    let (z, k, e) = from_map (interval_of older (Some (length older))) y
    (filter (λ x. not (has flows x)) (newest older)) j in
    subst (λ (u : Interval). IsTellingOnce x u) (sym e) (λ same. before_next older x z h.1 i
    (from_filter (λ x. not (has flows x)) z (newest older) k).0 same))

pub intervals_once : (past : List (List OpenFlow)) → AreDistinct past → Pairs IsTellingOnce (intervals past)
intervals_once past h = pairs_append IsTellingOnce (ended past) (lasting past) (ended_once past h)
    (told_once past None (newest past) (newest_apart past h))
    (λ x y i j.
    let (z, k, e) = from_map (interval_of past None) y (newest past) j in
    subst (λ (u : Interval). IsTellingOnce x u) (sym e) (λ same. before_next past x z h i k same))
