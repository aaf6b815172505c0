-- The intervals are exactly the true and maximal ones.
use Rattle.std.proofs.Common.{◌≡◌, ℕ, ◌+◌, ◌-◌, ◌<◌, ◌≤◌, List, [], ◌∷◌, ◌++◌, length, get_or, Option, Some, None, refl, sym, ap, subst, ◌∙◌, inl, inr, arith}
use Rattle.std.specs.Prelude.{reverse, IfSome}
use Rattle.std.proofs.lemmas.Bool.{cases_lt, cases_order}
use Rattle.std.proofs.lemmas.List.{get_or_append_left, get_or_push, get_or_past, length-reverse, length_push, reverse-append, reverse-reverse}
use Rattle.mg_heard.specs.declared.open_flow.OpenFlow.{OpenFlow}
use Rattle.mg_heard.specs.Intervals.{Interval, ended, interval_of, intervals, lasting, newest, since}
use Rattle.mg_heard.specs.Maximal.{IntervalsAreTrueAndMaximal, IsOpenAt, IsTrueAndMaximal, LiesIn}
use Rattle.mg_heard.proofs.IntervalLemmas.{HasEnded, IsOpen, IsToldEnded, has_ended, is_since, is_told, open_before, since_newest}
use Rattle.mg_heard.proofs.Members.{In, at_from_in, from_map, in_cases, in_from_at, in_left, in_map, in_right}

-- ## A moment by its number

added : (flows : List OpenFlow) (older : List (List OpenFlow)) →
    reverse (flows ∷ older) ≡ reverse older ++ (flows ∷ [])
added flows older = reverse-append (flows ∷ []) older

abbrev At : List (List OpenFlow) → ℕ → OpenFlow → Type 0
At moments k x = In x (get_or moments k [])

moved : (flows : List OpenFlow) (older : List (List OpenFlow)) (k : ℕ) (flows_at : List OpenFlow) (x : OpenFlow) →
    get_or (reverse older ++ (flows ∷ [])) k [] ≡ flows_at → At (reverse (flows ∷ older)) k x → In x flows_at
moved flows older k flows_at x e h =
    subst (λ (l : List OpenFlow). In x l) (ap (λ (l : List (List OpenFlow)). get_or l k []) (added flows older) ∙ e) h

moved_back : (flows : List OpenFlow) (older : List (List OpenFlow)) (k : ℕ) (flows_at : List OpenFlow) (x : OpenFlow) →
    get_or (reverse older ++ (flows ∷ [])) k [] ≡ flows_at → In x flows_at → At (reverse (flows ∷ older)) k x
moved_back flows older k flows_at x e h = subst (λ (l : List OpenFlow). In x l)
    (sym (ap (λ (l : List (List OpenFlow)). get_or l k []) (added flows older) ∙ e)) h

older_at : (flows : List OpenFlow) (older : List (List OpenFlow)) (k : ℕ) → k < length older →
    get_or (reverse older ++ (flows ∷ [])) k [] ≡ get_or (reverse older) k []
older_at flows older k below =
    let long = length-reverse older in
    get_or_append_left (reverse older) (flows ∷ []) [] k (omega arith)

newest_at : (flows : List OpenFlow) (older : List (List OpenFlow)) (k : ℕ) → k ≡ length older →
    get_or (reverse older ++ (flows ∷ [])) k [] ≡ flows
newest_at flows older k same =
    let long = length-reverse older in
    get_or_push (reverse older) flows [] k (omega arith)

past_at : (flows : List OpenFlow) (older : List (List OpenFlow)) (k : ℕ) → length older < k →
    get_or (reverse older ++ (flows ∷ [])) k [] ≡ []
past_at flows older k above =
    let long = length-reverse older in
    let longer = length_push (reverse older) flows in
    get_or_past (reverse older ++ (flows ∷ [])) k [] (omega arith)

pub at_from_open : (past : List (List OpenFlow)) (k : ℕ) (x : OpenFlow) → IsOpen past k x → At (reverse past) k x
at_from_open [] k x h = absurd h
at_from_open (flows ∷ older) k x (inl h) = moved_back flows older k flows x (newest_at flows older k h.0) h.1
at_from_open (flows ∷ older) k x (inr h) = moved_back flows older k (get_or (reverse older) k []) x
    (older_at flows older k (open_before older k x h)) (at_from_open older k x h)

pub open_from_at : (past : List (List OpenFlow)) (k : ℕ) (x : OpenFlow) → At (reverse past) k x → IsOpen past k x
open_from_at [] k x h = h
open_from_at (flows ∷ older) k x h = elim (cases_order k (length older)) [
  | inl e ↦ inl (e, moved flows older k flows x (newest_at flows older k e) h)
  | inr r ↦ elim r [
    | inl below ↦ inr (open_from_at older k x
        (moved flows older k (get_or (reverse older) k []) x (older_at flows older k below) h))
    | inr above ↦ absurd (moved flows older k [] x (past_at flows older k above) h)
  ]
]

-- ## Reported intervals are true and maximal

-- The interval is true and maximal for a past, whose moments come newest first.
record IsRun (past : List (List OpenFlow)) (y : Interval) : Type 0 where
  some : (y.first < length past) × LiesIn y.first y
  throughout : (k : ℕ) → k < length past → LiesIn k y → IsOpen past k y.flow
  not_before : (k : ℕ) → k + 1 ≡ y.first → ¬ IsOpen past k y.flow
  not_after : IfSome y.end (λ end. (end < length past) × ¬ IsOpen past end y.flow)

at_end : (P : ℕ → Type 0) (o : Option ℕ) (end : ℕ) → o ≡ Some end → P end → IfSome o P
at_end P o end e h = subst (λ (o : Option ℕ). IfSome o P) (sym e) h

end_at : (P : ℕ → Type 0) (o : Option ℕ) (end : ℕ) → o ≡ Some end → IfSome o P → P end
end_at P o end e h = subst (λ (o : Option ℕ). IfSome o P) e h

run_from_ended : (past : List (List OpenFlow)) (y : Interval) (end : ℕ) → HasEnded past y end → IsRun past y
run_from_ended past y end h = record {
  some = (
    let s = h.some in let w = h.within in omega arith,
    (omega arith, at_end (λ n. y.first < n) y.end end h.ends h.some),
  );
  throughout = λ k below lies. h.open_since k lies.0 (end_at (λ n. k < n) y.end end h.ends lies.1);
  not_before = h.not_before;
  not_after = at_end (λ n. (n < length past) × ¬ IsOpen past n y.flow) y.end end h.ends (h.within, h.not_after);
}

run_from_lasting : (past : List (List OpenFlow)) (x : OpenFlow) → In x (newest past) → IsRun past (interval_of past None x)
run_from_lasting past x h =
    let s = is_since past x in
    record {
      some = (since_newest past x h, (omega arith, tt));
      throughout = λ k below lies. s.open_since k lies.0 below;
      not_before = s.not_before;
      not_after = tt;
    }

is_run : (past : List (List OpenFlow)) (y : Interval) → In y (intervals past) → IsRun past y
is_run past y h = elim (in_cases y (ended past) (lasting past) h) [
  | inl k ↦ let (end, is) = has_ended past y k in run_from_ended past y end is
  | inr k ↦ let (x, j, e) = from_map (interval_of past None) y (newest past) k in
      subst (λ (z : Interval). IsRun past z) (sym e) (run_from_lasting past x j)
]

-- ## Each true and maximal interval is reported

same_interval : (y z : Interval) → y.flow ≡ z.flow → y.first ≡ z.first → y.end ≡ z.end → y ≡ z
same_interval y z a b c = λ i. record { flow = a i; first = b i; end = c i }

-- If the flow of a maximal interval has been open from `first` up to the interval's beginning, the interval begins at
-- `first`.
same_first : (past : List (List OpenFlow)) (y : Interval) (x : OpenFlow) (first : ℕ) → IsRun past y → y.flow ≡ x →
    first ≤ y.first → ((k : ℕ) → first ≤ k → k < y.first → IsOpen past k x) → y.first ≡ first
same_first past y x first h e under opens = elim (cases_lt first y.first) [
  | inl less ↦ absurd (h.not_before (y.first - 1) (omega arith)
      (subst (λ (z : OpenFlow). IsOpen past (y.first - 1) z) (sym e) (opens (y.first - 1) (omega arith) (omega arith))))
  | inr more ↦ omega arith
]

same_end_at : (past : List (List OpenFlow)) (y : Interval) (end : ℕ) (o : Option ℕ) → y.end ≡ o → IsRun past y →
    y.first < end → end < length past → ((k : ℕ) → y.first ≤ k → k < end → IsOpen past k y.flow) →
    (IsOpen past end y.flow → ⊥) → o ≡ Some end
same_end_at past y end None e h some within opens not_after = absurd (not_after (h.throughout end within
    (omega arith, subst (λ (o : Option ℕ). IfSome o (λ n. end < n)) (sym e) tt)))
same_end_at past y end (Some other) e h some within opens not_after = elim (cases_order other end) [
  | inl same ↦ ap (λ (n : ℕ). Some n) same
  | inr r ↦ elim r [
    | inl below ↦
        let after = end_at (λ n. (n < length past) × ¬ IsOpen past n y.flow) y.end other e h.not_after in
        let from = end_at (λ n. y.first < n) y.end other e h.some.1.1 in
        absurd (after.1 (opens other (omega arith) below))
    | inr above ↦ absurd (not_after (h.throughout end within
        (omega arith, at_end (λ n. end < n) y.end other e above)))
  ]
]

same_none_at : (past : List (List OpenFlow)) (y : Interval) (o : Option ℕ) → y.end ≡ o → IsRun past y →
    ((k : ℕ) → y.first ≤ k → k < length past → IsOpen past k y.flow) → o ≡ None
same_none_at past y None e h opens = refl
same_none_at past y (Some end) e h opens =
    let after = end_at (λ n. (n < length past) × ¬ IsOpen past n y.flow) y.end end e h.not_after in
    let from = end_at (λ n. y.first < n) y.end end e h.some.1.1 in
    absurd (after.1 (opens end (omega arith) after.0))

told_when_ended : (past : List (List OpenFlow)) (y : Interval) → IsRun past y → IsToldEnded past y.first y.flow →
    In y (intervals past)
told_when_ended past y h t =
    let (end, is) = has_ended past t.y t.told in
    let same : t.end ≡ end = cc (t.ends, is.ends) in
    let opens = λ (k : ℕ) (from : t.y.first ≤ k) (below : k < end).
    subst (λ (x : OpenFlow). IsOpen past k x) t.flow (is.open_since k from below) in
    let below = t.below in
    let first = same_first past y y.flow t.y.first h refl t.from (λ k from less. opens k from (omega arith)) in
    let ends = same_end_at past y end y.end refl h (omega arith) is.within (λ k from less. opens k (omega arith) less)
    (λ o. is.not_after (subst (λ (x : OpenFlow). IsOpen past end x) (sym t.flow) o)) in
    subst (λ (z : Interval). In z (intervals past)) (sym (same_interval y t.y (sym t.flow) first (ends ∙ sym is.ends)))
    (in_left t.y (ended past) (lasting past) t.told)

told_when_lasting : (past : List (List OpenFlow)) (y : Interval) → IsRun past y → In y.flow (newest past) →
    since past y.flow ≤ y.first → In y (intervals past)
told_when_lasting past y h t from =
    let s = is_since past y.flow in
    let within = h.some.0 in
    let first = same_first past y y.flow (since past y.flow) h refl from (λ k above less. s.open_since k above (omega arith)) in
    let ends = same_none_at past y y.end refl h (λ k above less. s.open_since k (omega arith) less) in
    subst (λ (z : Interval). In z (intervals past)) (sym (same_interval y (interval_of past None y.flow) refl first ends))
    (in_right (interval_of past None y.flow) (ended past) (lasting past)
    (in_map (interval_of past None) y.flow (newest past) t))

is_among : (past : List (List OpenFlow)) (y : Interval) → IsRun past y → In y (intervals past)
is_among past y h = elim (is_told past y.first y.flow (h.throughout y.first h.some.0 h.some.1)) [
  | inl t ↦ told_when_ended past y h t
  | inr t ↦ told_when_lasting past y h t.0 t.1
]

-- ## The two directions of the theorem

maximal_from_run : (past : List (List OpenFlow)) (y : Interval) → IsRun past y → IsTrueAndMaximal (reverse past) y
maximal_from_run past y h =
    let long = length-reverse past in
    record {
      some = (rw long h.some.0, h.some.1);
      throughout = λ k below lies. at_from_in y.flow (get_or (reverse past) k [])
          (at_from_open past k y.flow (h.throughout k (omega arith) lies));
      not_before = λ k is opens. h.not_before k is
          (open_from_at past k y.flow (in_from_at y.flow (get_or (reverse past) k []) opens));
      not_after = ends_from_run past y y.end h.not_after;
    }
  where
    ends_from_run : (past : List (List OpenFlow)) (y : Interval) (o : Option ℕ) →
        IfSome o (λ end. (end < length past) × ¬ IsOpen past end y.flow) →
        IfSome o (λ end. (end < length (reverse past)) × ¬ IsOpenAt (reverse past) end y.flow)
    ends_from_run past y None h = tt
    ends_from_run past y (Some end) h = (
      let long = length-reverse past in let within = h.0 in omega arith,
      λ opens. h.1 (open_from_at past end y.flow (in_from_at y.flow (get_or (reverse past) end []) opens)),
    )

run_from_maximal : (past : List (List OpenFlow)) (y : Interval) → IsTrueAndMaximal (reverse past) y → IsRun past y
run_from_maximal past y h =
    let long = length-reverse past in
    record {
      some = (rw (← long) h.some.0, h.some.1);
      throughout = λ k below lies. open_from_at past k y.flow
          (in_from_at y.flow (get_or (reverse past) k []) (h.throughout k (omega arith) lies));
      not_before = λ k is opens. h.not_before k is
          (at_from_in y.flow (get_or (reverse past) k []) (at_from_open past k y.flow opens));
      not_after = run_from_ends past y y.end h.not_after;
    }
  where
    run_from_ends : (past : List (List OpenFlow)) (y : Interval) (o : Option ℕ) →
        IfSome o (λ end. (end < length (reverse past)) × ¬ IsOpenAt (reverse past) end y.flow) →
        IfSome o (λ end. (end < length past) × ¬ IsOpen past end y.flow)
    run_from_ends past y None h = tt
    run_from_ends past y (Some end) h = (
      let long = length-reverse past in let within = h.0 in omega arith,
      λ opens. h.1 (at_from_in y.flow (get_or (reverse past) end []) (at_from_open past end y.flow opens)),
    )

pub intervals_are_true_and_maximal : IntervalsAreTrueAndMaximal
intervals_are_true_and_maximal moments y =
    let back = reverse-reverse moments in (
      λ h. subst (λ (l : List (List OpenFlow)). IsTrueAndMaximal l y) back (maximal_from_run (reverse moments) y
          (is_run (reverse moments) y (in_from_at y (intervals (reverse moments)) h))),
      λ h. at_from_in y (intervals (reverse moments)) (is_among (reverse moments) y (run_from_maximal (reverse moments) y
          (subst (λ (l : List (List OpenFlow)). IsTrueAndMaximal l y) (sym back) h))),
    )

-- ## The ticks of intervals

-- If a flow is among the open flows of a moment, an interval of this flow contains the moment's tick.
pub told_at : (moments : List (List OpenFlow)) (k : ℕ) (x : OpenFlow) → In x (get_or moments k []) →
    (y : Interval) × In y (intervals (reverse moments)) × (y.flow ≡ x) × LiesIn k y
told_at moments k x h =
    let past = reverse moments in
    let opens = open_from_at past k x
    (subst (λ (l : List (List OpenFlow)). At l k x) (sym (reverse-reverse moments)) h) in
    elim (is_told past k x opens) [
      | inl t ↦ (
        t.y,
        in_left t.y (ended past) (lasting past) t.told,
        t.flow,
        (t.from, at_end (λ n. k < n) t.y.end t.end t.ends t.below),
      )
      | inr t ↦ (
        interval_of past None x,
        in_right (interval_of past None x) (ended past) (lasting past)
            (in_map (interval_of past None) x (newest past) t.0),
        refl,
        (t.1, tt),
      )
    ]

-- If an interval contains the tick of a moment, its flow is open in that moment.
pub open_at : (moments : List (List OpenFlow)) (k : ℕ) (y : Interval) → In y (intervals (reverse moments)) →
    k < length moments → LiesIn k y → In y.flow (get_or moments k [])
open_at moments k y h within lies =
    let long = length-reverse moments in
    subst (λ (l : List (List OpenFlow)). At l k y.flow) (reverse-reverse moments)
    (at_from_open (reverse moments) k y.flow
    ((is_run (reverse moments) y h).throughout k (omega arith) lies))
